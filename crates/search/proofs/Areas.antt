-- The lengths and the two areas after a search: refused, refused with 11, and accepted.
use Prim.Native.Nat.{◌≤◌}
use mathlib.Core.Path.{◌≡◌, refl, ap, ◌∙◌}
use mathlib.Core.Bool.{Bool, true, false}
use mathlib.Core.List.{◌++◌}
use mathlib.Core.Logic.{◌≢◌}
use borrow.Author.Tests.{eqb-true, eqb-false, ne_eqb}
use lib.Dec.{eqb}
use lib.ListN.{length, drop, replicate, length-replicate}
use Rattle.places.specs.Places.{overlay}
use Rattle.places.proofs.Places.{overlay_nil, overlay_length}
use Rattle.search.specs.Search.{Lent, record_bytes, list_bytes, search_number, record_length, list_length, record_after, list_after}
use Rattle.search.proofs.Outcome.{accepted_clear}

module _ (s : Lent) where
  -- ---- refused

  module _ (refused : search_number s ≢ 0) where
    pub record_length_refused : record_length s ≡ 0
    unfolding record_length
    record_length_refused = rw (ne_eqb (search_number s) 0 refused)

    pub list_length_refused : list_length s ≡ 0
    unfolding list_length
    list_length_refused = rw (ne_eqb (search_number s) 0 refused)

    pub list_refused : list_after s ≡ s.list_area
    unfolding list_after
    list_refused = rw (ne_eqb (search_number s) 0 refused) (overlay_nil s.list_area)

    pub record_refused : search_number s ≢ 11 → record_after s ≡ s.record_area
    unfolding record_after
    record_refused other = rw (ne_eqb (search_number s) 11 other, ne_eqb (search_number s) 0 refused) (overlay_nil s.record_area)

  pub record_zeroed : search_number s ≡ 11 → record_after s ≡ replicate (length s.record_area) 0
  unfolding record_after
  record_zeroed h = rw h

  -- ---- accepted

  module _ (accepted : search_number s ≡ 0) where
    pub record_length_lem : record_length s ≡ length (record_bytes s)
    unfolding record_length
    record_length_lem = rw accepted

    pub list_length_lem : list_length s ≡ length (list_bytes s)
    unfolding list_length
    list_length_lem = rw accepted

    pub record_room : record_length s ≤ length s.record_area
    record_room = rw record_length_lem (accepted_clear s accepted).record_fits

    pub list_room_lem : list_length s ≤ length s.list_area
    list_room_lem = rw list_length_lem (accepted_clear s accepted).list_fits

    record_overlay : record_after s ≡ overlay (record_bytes s) s.record_area
    unfolding record_after
    record_overlay = rw accepted

    list_overlay : list_after s ≡ overlay (list_bytes s) s.list_area
    unfolding list_after
    list_overlay = rw accepted

    pub record_written : record_after s ≡ record_bytes s ++ drop (record_length s) s.record_area
    unfolding overlay
    record_written = rw record_length_lem record_overlay

    pub list_written : list_after s ≡ list_bytes s ++ drop (list_length s) s.list_area
    unfolding overlay
    list_written = rw list_length_lem list_overlay

  -- ---- in every case

  pub record_area_length : length (record_after s) ≡ length s.record_area
  record_area_length = go (eqb (search_number s) 0) refl (eqb (search_number s) 11) refl
    where
      go : (a : Bool) → eqb (search_number s) 0 ≡ a → (b : Bool) → eqb (search_number s) 11 ≡ b → length (record_after s) ≡ length s.record_area
      go true h b k =
          let z = eqb-true (search_number s) 0 h in
          ap length (record_overlay z) ∙ overlay_length (record_bytes s) s.record_area (accepted_clear s z).record_fits
      go false h true k = ap length (record_zeroed (eqb-true (search_number s) 11 k)) ∙ length-replicate (length s.record_area) 0
      go false h false k = ap length (record_refused (eqb-false (search_number s) 0 h) (eqb-false (search_number s) 11 k))

  pub list_area_length : length (list_after s) ≡ length s.list_area
  list_area_length = go (eqb (search_number s) 0) refl
    where
      go : (a : Bool) → eqb (search_number s) 0 ≡ a → length (list_after s) ≡ length s.list_area
      go true h =
          let z = eqb-true (search_number s) 0 h in
          ap length (list_overlay z) ∙ overlay_length (list_bytes s) s.list_area (accepted_clear s z).list_fits
      go false h = ap length (list_refused (eqb-false (search_number s) 0 h))
