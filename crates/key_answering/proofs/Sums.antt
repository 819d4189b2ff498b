-- The two shares of a page's lines add to 1 at the prefixes of the string, and to 0 beside them.
use Prim.Native.Nat.{ℕ, zero, suc, ◌+◌, ◌≤◌, ◌<◌}
use native.Mathlib.Omega.{arith}
use mathlib.Core.Path.{◌≡◌, refl, sym, ap, ap₂, ◌∙◌}
use mathlib.Core.Bool.{Bool, true, false, not, cond}
use mathlib.Core.List.{List, [], ◌∷◌, ◌++◌}
use lib.ListN.{length, take}
use lib.Seq.{length-take-le}
use lib.IntN.{pos}
use Rattle.places.specs.Places.{Bytes}
use Rattle.bits.specs.Strings.{Bits, ◌▹◌, is_prefix}
use Rattle.bits.specs.Packing.{pack, unpack}
use Rattle.bits.proofs.Packed.{unpack_pack}
use Rattle.bits.proofs.Append.{append_length}
use Rattle.group.specs.Modular.{field, modulus}
use Rattle.signed.specs.SignedReading.{embed}
use Rattle.expander.specs.declared.Expander.{Expander}
use Rattle.point.specs.Keys.{key_correction}
use Rattle.point.specs.Evaluation.{bit_of, share_at}
use Rattle.point.specs.Instance.{field_scheme, scheme}
use Rattle.point.specs.PublicShare.{public_share, read_correction}
use Rattle.point.specs.Totals.{Report, Made, report_correction, report_public_share, report_share}
use Rattle.point.proofs.Prefix.{prefix_correct}
use Rattle.point.proofs.Honest.{report_read}
use Rattle.point.proofs.Instance.{scheme_lawful, p_fits}
use Rattle.keymaker.specs.Key.{key_bytes}
use Rattle.exam_text.specs.Characters.{binary, decimal}
use Rattle.key_answering.specs.KeyPage.{spaced, closed, prefix_word, beside_word, shares_line, path_lines}

-- ---- the prefixes of a page

-- The prefix that ends with bit k is one of the string's, and the one beside it is not.
own_prefix : (s : Bits) (k : ℕ) → k < length s → is_prefix (take k s ▹ bit_of s k) s ≡ true
own_prefix [] k h = absurd (omega arith)
own_prefix (true ∷ s) zero h = refl
own_prefix (false ∷ s) zero h = refl
own_prefix (true ∷ s) (suc k) h = own_prefix s k (omega arith)
own_prefix (false ∷ s) (suc k) h = own_prefix s k (omega arith)

other_prefix : (s : Bits) (k : ℕ) → k < length s → is_prefix (take k s ▹ not (bit_of s k)) s ≡ false
other_prefix [] k h = absurd (omega arith)
other_prefix (true ∷ s) zero h = refl
other_prefix (false ∷ s) zero h = refl
other_prefix (true ∷ s) (suc k) h = other_prefix s k (omega arith)
other_prefix (false ∷ s) (suc k) h = other_prefix s k (omega arith)

-- ---- the sums

-- For every string of n bits, any two seeds of 16 bytes and either expander.
module _ (e : Expander) (n : ℕ) (s : Bits) (seed0 seed1 : List ℕ) (bits : length s ≡ n) (sized0 : Bytes 16 seed0) (sized1 : Bytes 16 seed1) where
  -- server b's share, as a page has it
  abbrev pub printed_share : Bool → Bits → ℕ
  printed_share b q = share_at (scheme e) (read_correction n (key_bytes n (pos 1) (pack s) seed0 seed1 e)) (cond b seed1 seed0) b q

  r : Report ℕ
  r = record { string = s; seed0 = seed0; seed1 = seed1; weight = 1 }

  made : Made (λ x. x < modulus) n r
  unfolding r
  made = record { bits = bits; in_group = omega arith; sized0 = sized0; sized1 = sized1 }

  key_share : key_bytes n (pos 1) (pack s) seed0 seed1 e ≡ report_public_share (scheme e) n r
  unfolding embed key_bytes report_public_share report_correction r
  key_share =
      ap (λ (x : Bits). public_share n (key_correction (scheme e) 1 (bit_of x) seed0 seed1)) (ap (λ (m : ℕ). unpack m (pack s)) (sym bits) ∙ unpack_pack s)

  shared : (b : Bool) (q : Bits) → length q ≤ n → printed_share b q ≡ share_at (scheme e) (key_correction (scheme e) 1 (bit_of s) seed0 seed1) (cond b seed1 seed0) b q
  unfolding report_share report_correction r
  shared b q short = rw key_share (report_read (scheme e) (scheme_lawful e) p_fits n r made b q short)

  pub page_sums : (q : Bits) → 0 < length q → length q ≤ n → field.add (printed_share false q) (printed_share true q) ≡ cond (is_prefix q s) 1 0
  unfolding field_scheme
  page_sums q some short =
      rw (shared false q short, shared true q short) (prefix_correct (scheme e) (scheme_lawful e) 1 (omega arith) seed0 seed1 sized0 sized1 s q some (rw bits short))

  -- their sum
  abbrev printed_sum : Bits → ℕ
  printed_sum q = field.add (printed_share false q) (printed_share true q)

  -- At the prefix that ends with bit k the shares add to 1, and beside it to 0.
  path_sums : (k : ℕ) → k < n → (printed_sum (take k s ▹ bit_of s k) ≡ 1) × (printed_sum (take k s ▹ not (bit_of s k)) ≡ 0)
  path_sums k h =
      let size : (x : Bool) → length (take k s ▹ x) ≡ k + 1 = λ x. append_length (take k s) x ∙ ap (λ (m : ℕ). m + 1) (length-take-le k s (omega (arith, bits, h))) in
      let own = take k s ▹ bit_of s k in
      let other = take k s ▹ not (bit_of s k) in (
        page_sums own (omega (arith, size (bit_of s k))) (omega (arith, h, size (bit_of s k))) ∙ ap (λ (b : Bool). cond b 1 0) (own_prefix s k (omega (arith, bits, h))),
        page_sums other (omega (arith, size (not (bit_of s k)))) (omega (arith, h, size (not (bit_of s k)))) ∙ ap (λ (b : Bool). cond b 1 0) (other_prefix s k (omega (arith, bits, h))),
      )

  -- the line of a prefix with both servers' shares and the sum z
  abbrev pub line_ending_with : ℕ → List ℕ → Bits → List ℕ
  line_ending_with z word q =
      spaced word ++ (spaced (binary q) ++ (spaced (decimal (printed_share false q)) ++ (spaced (decimal (printed_share true q)) ++ closed (decimal z))))

  -- Of the two lines of a page for each bit of the string, the first ends with 1 and the second with 0.
  pub path_lines_lem : (k : ℕ) → k < n
      → path_lines e n s seed0 seed1 (key_bytes n (pos 1) (pack s) seed0 seed1 e) k
      ≡ line_ending_with 1 prefix_word (take k s ▹ bit_of s k) ++ line_ending_with 0 beside_word (take k s ▹ not (bit_of s k))
  unfolding shares_line
  path_lines_lem k h =
      let sums = path_sums k h in
      ap₂ (λ (x y : ℕ). line_ending_with x prefix_word (take k s ▹ bit_of s k) ++ line_ending_with y beside_word (take k s ▹ not (bit_of s k))) sums.0 sums.1
