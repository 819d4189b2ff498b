-- What is read of an accepted search is what it writes, and its record level by level.
use mathlib.Core.Path.{◌≡◌, refl, sym, ap, ap₂, ◌∙◌}
use mathlib.Core.Bool.{Bool}
use mathlib.Core.List.{List, ◌++◌}
use Prim.Native.Nat.{ℕ, zero, suc, ◌≤◌}
use native.Mathlib.Nat.{zero-add}
use native.Mathlib.Omega.{arith}
use lib.ListN.{length}
use lib.Seq.{take-append_seam}
use Rattle.places.specs.Places.{overlay}
use Rattle.bits.specs.Strings.{Bits}
use Rattle.point.specs.PublicShare.{joined}
use Rattle.tree.specs.SearchRule.{start, level, kept_from, record_from, is_kept, search_list}
use Rattle.query.specs.Query.{children}
use Rattle.tree.proofs.Steps.{record_last}
use Rattle.search.specs.Search.{Lent, record_bytes, list_bytes, record_length, list_length, record_after, list_after}
use Rattle.search.proofs.Outcome.{accepted_clear}
use Rattle.honest.specs.Honest.{Accepted, record_read, list_read}

module _ (s : Lent) (ok : Accepted s) where
  pub record_read_lem : record_read s ≡ record_bytes s
  unfolding record_length record_after overlay
  record_read_lem = rw ok (take-append_seam (record_bytes s) _)

  record_returned : record_length s ≡ length (record_bytes s)
  unfolding record_length
  record_returned = rw ok

  -- its length is the one returned, and no more than the area has
  pub record_whole : (length (record_read s) ≡ record_length s) × (record_length s ≤ length s.record_area)
  record_whole = (ap length record_read_lem ∙ sym record_returned, omega (arith, record_returned, (accepted_clear s ok).record_fits))

  pub list_read_lem : list_read s ≡ list_bytes s
  unfolding list_length list_after overlay
  list_read_lem = rw ok (take-append_seam (list_bytes s) _)

  list_returned : list_length s ≡ length (list_bytes s)
  unfolding list_length
  list_returned = rw ok

  pub list_whole : (length (list_read s) ≡ list_length s) × (list_length s ≤ length s.list_area)
  list_whole = (ap length list_read_lem ∙ sym list_returned, omega (arith, list_returned, (accepted_clear s ok).list_fits))

-- What n levels add to a record are the levels, one after the other.
pub levels_joined : (enough : ℕ → Bool) (T : Bits → ℕ) (n : ℕ)
    → record_from (is_kept enough T) T n 0 start ≡ joined n (λ k. level T k (children (search_list enough T k)))
unfolding joined search_list
levels_joined enough T zero = refl
levels_joined enough T (suc n) =
    record_last (is_kept enough T) T n 0 start
    ∙ ap₂ (λ (r : List ℕ) (k : ℕ). r ++ level T k (children (kept_from (is_kept enough T) n start))) (levels_joined enough T n) (zero-add n)
