-- What is known of the prefixes of a query and of a last query.
use Prim.Native.Nat.{ℕ, zero, suc, ◌<◌}
use native.Mathlib.Omega.{arith}
use mathlib.Core.Path.{◌≡◌, refl, sym, ap, ◌∙◌}
use mathlib.Core.Logic.{◌↔◌, inl, inr, ⊎_elim}
use mathlib.Core.Bool.{true, false}
use mathlib.Core.List.{List, [], ◌∷◌}
use lib.ListN.{length, get_or, drop, length-map}
use lib.Seq.{get_or-take}
use Rattle.bits.specs.Strings.{Bits, Ascending}
use Rattle.bits.specs.Packing.{packed_length, bits_of, unpack}
use Rattle.bits.proofs.Packed.{unpack_length}
use Rattle.query.specs.Query.{is_query, prefix_length, prefix_count, packed_prefixes, prefixes_of}
use Rattle.query.specs.Prefix.{packed_prefix}
use Rattle.query.proofs.Queries.{parts_length, ascending_test, query_exact}
use Rattle.query.proofs.Ready.{ready, prefix_size, prefix_unpack}
use Rattle.parents.specs.Parents.{IsLast, is_last, last_prefixes}
use Rattle.parents.specs.Lookup.{last_count, last_length}

-- bytes pass as a last query exactly when they are one
pub last_exact : (n : ℕ) (last : List ℕ) → ((i : ℕ) → get_or last i 0 < 256) → (is_last n last ≡ true) ↔ IsLast n last
last_exact n [] byte = (λ e. inl refl, λ h. refl)
last_exact n (x ∷ xs) byte = (
  (λ e. inr ((query_exact n (x ∷ xs) byte).0 e)),
  (λ h. ⊎_elim (λ z. absurd (omega (arith, ap length z))) (λ q. (query_exact n (x ∷ xs) byte).1 q) h),
)

pub prefixes_length : (query : List ℕ) → length (prefixes_of query) ≡ prefix_count query
prefixes_length query =
    length-map (packed_prefixes query) (unpack (prefix_length query))
    ∙ parts_length (packed_length (prefix_length query)) (prefix_count query) (drop 6 query)

pub last_count_lem : (last : List ℕ) → length (last_prefixes last) ≡ last_count last
last_count_lem [] = refl
last_count_lem (x ∷ xs) = prefixes_length (x ∷ xs)

-- the strings ps of k bits each, in order, and their packed forms
pub record Known (count k : ℕ) (packed : ℕ → List ℕ) (ps : List Bits) : Type 0 where
  pub size : length ps ≡ count
  pub bits : (i : ℕ) → i < count → length (get_or ps i []) ≡ k
  pub same : (i : ℕ) → i < count → (b : ℕ) → b < k → get_or (bits_of (packed i)) b false ≡ get_or (get_or ps i []) b false
  pub ascending : Ascending ps

pub known_query : (n : ℕ) (query : List ℕ) → is_query n query ≡ true
    → Known (prefix_count query) (prefix_length query) (packed_prefix query) (prefixes_of query)
unfolding unpack
known_query n query e = record {
  size = prefixes_length query;
  bits = λ i h. ap length (sym (prefix_unpack n query i e h)) ∙ unpack_length (prefix_length query) (packed_prefix query i) (prefix_size n query i e h);
  same = λ i h b l.
      sym (get_or-take (prefix_length query) (bits_of (packed_prefix query i)) b false l)
      ∙ ap (λ (p : Bits). get_or p b false) (prefix_unpack n query i e h);
  ascending = (ascending_test (prefixes_of query)).0 (ready n query e).ascending;
}

empty_bits : (i : ℕ) → i < 1 → length (get_or (last_prefixes []) i []) ≡ 0
empty_bits zero h = refl
empty_bits (suc i) h = absurd (omega arith)

pub known_last : (n : ℕ) (last : List ℕ) → is_last n last ≡ true → Known (last_count last) (last_length last) (packed_prefix last) (last_prefixes last)
known_last n [] e = record { size = refl; bits = empty_bits; same = λ i h b l. absurd (omega arith); ascending = (tt, tt) }
known_last n (x ∷ xs) e = known_query n (x ∷ xs) e
