-- Strings, their weights and root seeds, with the public shares that the key maker gives for them, are honest.
use Rattle.std.specs.Prelude.{Some}
use mathlib.Core.Path.{◌≡◌, sym, ap, ◌∙◌}
use mathlib.Core.Bool.{false}
use mathlib.Core.List.{List, []}
use Prim.Native.Nat.{ℕ, ◌*◌, ◌≤◌, ◌<◌}
use lib.ListN.{length, get_or}
use lib.IntN.{ℤ, pos}
use Rattle.places.specs.Lists.{All}
use Rattle.bits.specs.Strings.{Bits}
use Rattle.places.specs.Places.{Bytes}
use Rattle.calls.specs.Outcome.{Outcome, accepted}
use Rattle.expander.specs.Expander.{choice_of}
use Rattle.expander.specs.declared.Expander.{Expander}
use Rattle.point.specs.PublicShare.{joined, public_share_length}
use Rattle.point.proofs.Joined.{joined_length, joined_at}
use Rattle.query.specs.Query.{OfLength}
use Rattle.weights.specs.Weights.{IsWeight, EveryOne}
use Rattle.report_sums.specs.Reports.{public_share_at}
use Rattle.search.specs.Search.{Lent}
use Rattle.honest.specs.Honest.{key_at, Honest}
use Rattle.honest.proofs.Keys.{key_passes}
use Rattle.honest.proofs.Reports.{report_at, report_made, key_of}

module _ (s : Lent) (xs : List Bits) (ws : List ℤ) (bits : OfLength s.n xs) (sized0 : Bytes (16 * length xs) s.seeds0) (sized1 : Bytes (16 * length xs) s.seeds1)
    (e : Expander) (named : choice_of s.expander ≡ Some e) (from : 1 ≤ s.n) (to : s.n ≤ 256) where
  -- what the key maker writes for report i
  abbrev pub made_at : ℕ → List ℕ
  made_at i = (key_at s (get_or xs i []) (get_or ws i (pos 0)) i).written

  made_length : (i : ℕ) → i < length xs → length (made_at i) ≡ public_share_length s.n
  made_length i h =
      ap (λ (o : Outcome). length o.written) (key_of s xs ws bits sized0 sized1 e named from to i h)
      ∙ (key_passes e s.n (report_at s xs ws i) (report_made s xs ws bits sized0 sized1 i h)).0

  made : (i : ℕ) → i < length xs → key_at s (get_or xs i []) (get_or ws i (pos 0)) i ≡ accepted (public_share_at s.n (joined (length xs) made_at) i)
  made i h =
      let key = key_of s xs ws bits sized0 sized1 e named from to i h in
      key ∙ ap (λ (o : Outcome). accepted o.written) (sym key)
      ∙ ap accepted (sym (joined_at (public_share_length s.n) made_at (length xs) i made_length h))

  -- Where each server is lent these, one after the other, the reports are honest.
  pub made_honest : length ws ≡ length xs → All IsWeight ws → (s.weighted ≡ false → EveryOne ws)
      → s.shares0 ≡ joined (length xs) made_at → s.shares1 ≡ joined (length xs) made_at → Honest s xs ws
  made_honest weighed weights unweighted is0 is1 =
      let sized = joined_length (public_share_length s.n) made_at (length xs) made_length in
      record {
        n_bits = bits;
        weighed = weighed;
        weights = weights;
        unweighted = unweighted;
        seeds0 = sized0;
        seeds1 = sized1;
        shares0 = ap length is0 ∙ sized;
        shares1 = ap length is1 ∙ sized;
        made0 = λ i h. made i h ∙ ap (λ (shares : List ℕ). accepted (public_share_at s.n shares i)) (sym is0);
        made1 = λ i h. made i h ∙ ap (λ (shares : List ℕ). accepted (public_share_at s.n shares i)) (sym is1);
      }
