-- When the reports of a text's sheet are made, and what stands in the areas then.
use Prim.Native.Nat.{ℕ, ◌*◌, ◌≤◌, ◌<◌}
use mathlib.Core.Path.{◌≡◌, sym, ap, ap₂, ◌∙◌}
use mathlib.Core.Bool.{Bool, true, false, ◌&&◌}
use mathlib.Core.List.{List}
use borrow.Author.Tests.{le-leb, lt-leb}
use lib.ListN.{length, take, drop}
use lib.Seq.{take_at}
use lib.Dec.{leb}
use Rattle.places.specs.Places.{overlay}
use Rattle.expander.specs.Expander.{is_expander}
use Rattle.point.specs.PublicShare.{public_share_length}
use Rattle.exam_text.specs.Sheet.{expander_number}
use Rattle.exam_text.specs.Reader.{lines_of, is_sheet, sheet_of, read_sheet}
use Rattle.exam_text.proofs.ReaderExact.{sheet_within}
use Rattle.exam_reports.specs.SheetReports.{each_line, public_share_for, seeds0_of, seeds1_of, public_shares_of, are_made, Made, made_with, reports_made}
use Rattle.exam_reports.proofs.SheetSizes.{seeds0_size, seeds1_size, shares_size}

-- The text, and the areas as they are lent.
module _ (text seeds0 seeds1 shares : List ℕ) where
  pub no_sheet_lem : is_sheet text ≡ false → made_with false seeds0 seeds1 shares ≡ reports_made (read_sheet text) seeds0 seeds1 shares
  unfolding read_sheet reports_made
  no_sheet_lem h = rw h

  module _ (read : is_sheet text ≡ true) where
    abbrev made : Bool
    made = are_made (sheet_of text) (length seeds0) (length seeds1) (length shares)

    not_made : made ≡ false → made_with false seeds0 seeds1 shares ≡ reports_made (read_sheet text) seeds0 seeds1 shares
    unfolding read_sheet reports_made
    not_made h = rw (read, h)

    pub no_bits : (sheet_of text).n < 1 → made_with false seeds0 seeds1 shares ≡ reports_made (read_sheet text) seeds0 seeds1 shares
    no_bits h = not_made (rw (lt-leb 1 (sheet_of text).n h))

    module _ (from : 1 ≤ (sheet_of text).n) where
      pub no_expander : is_expander (expander_number (sheet_of text).expander) ≡ false
          → made_with false seeds0 seeds1 shares ≡ reports_made (read_sheet text) seeds0 seeds1 shares
      no_expander h = not_made (rw (le-leb 1 (sheet_of text).n from, h))

      module _ (known : is_expander (expander_number (sheet_of text).expander) ≡ true) (n C : ℕ) (same-n : n ≡ (sheet_of text).n) (same-C : C ≡ length (sheet_of text).lines) where
        abbrev fit : Bool
        fit = leb (16 * C) (length seeds0) && (leb (16 * C) (length seeds1) && leb (public_share_length n * C) (length shares))

        made_fit : made ≡ fit
        made_fit =
            let w = (sheet_within text read).0 in
            rw (le-leb 1 (sheet_of text).n from, known, seeds0_size (sheet_of text) w, seeds1_size (sheet_of text) w, shares_size (sheet_of text) w from known, same-n, same-C)

        pub no_room_lem : fit ≡ false → made_with false seeds0 seeds1 shares ≡ reports_made (read_sheet text) seeds0 seeds1 shares
        no_room_lem h = not_made (made_fit ∙ h)

        -- There is room: then the reports stand at the beginnings of the areas, and are read there.
        module _ (room0 : 16 * C ≤ length seeds0) (room1 : 16 * C ≤ length seeds1) (room : public_share_length n * C ≤ length shares) where
          fits : fit ≡ true
          fits = rw (le-leb (16 * C) (length seeds0) room0, le-leb (16 * C) (length seeds1) room1, le-leb (public_share_length n * C) (length shares) room)

          stand : reports_made (read_sheet text) seeds0 seeds1 shares
              ≡ made_with true (overlay (seeds0_of (sheet_of text)) seeds0) (overlay (seeds1_of (sheet_of text)) seeds1) (overlay (public_shares_of (sheet_of text)) shares)
          unfolding read_sheet reports_made
          stand = rw (read, made_fit ∙ fits)

          pub reports_stand : (r : Bool) (a b c : List ℕ) → made_with r a b c ≡ reports_made (read_sheet text) seeds0 seeds1 shares
              → (a ≡ overlay (seeds0_of (sheet_of text)) seeds0) × (b ≡ overlay (seeds1_of (sheet_of text)) seeds1) × (c ≡ overlay (public_shares_of (sheet_of text)) shares)
          reports_stand r a b c e = let is = e ∙ stand in (ap (λ (x : Made). x.seeds0) is, ap (λ (x : Made). x.seeds1) is, ap (λ (x : Made). x.shares) is)

          read_back : (bytes area area' : List ℕ) (m : ℕ) → area' ≡ overlay bytes area → length bytes ≡ m → take m area' ≡ bytes
          unfolding overlay
          read_back bytes area area' m is size = ap (take m) is ∙ take_at bytes _ m size

          pub reports_read : (r : Bool) (a b c : List ℕ) → made_with r a b c ≡ reports_made (read_sheet text) seeds0 seeds1 shares
              → (take (16 * C) a ≡ seeds0_of (sheet_of text)) × (take (16 * C) b ≡ seeds1_of (sheet_of text)) × (take (public_share_length n * C) c ≡ public_shares_of (sheet_of text))
          reports_read r a b c e =
              let w = (sheet_within text read).0 in
              let is = reports_stand r a b c e in
              let size = shares_size (sheet_of text) w from known ∙ ap₂ (λ (k m : ℕ). public_share_length k * m) (sym same-n) (sym same-C) in (
                read_back (seeds0_of (sheet_of text)) seeds0 a (16 * C) is.0 (seeds0_size (sheet_of text) w ∙ ap (λ (m : ℕ). 16 * m) (sym same-C)),
                read_back (seeds1_of (sheet_of text)) seeds1 b (16 * C) is.1 (seeds1_size (sheet_of text) w ∙ ap (λ (m : ℕ). 16 * m) (sym same-C)),
                read_back (public_shares_of (sheet_of text)) shares c (public_share_length n * C) is.2 size,
              )

        -- All fit, and the areas hold the reports of the lines that stand from place `at` on.
        pub all_made : fit ≡ true → (e at : ℕ) → e ≡ expander_number (sheet_of text).expander → (sheet_of text).lines ≡ lines_of n C (drop at text) → (a b c : List ℕ)
            → a ≡ overlay (each_line (λ l. l.seed0) (lines_of n C (drop at text))) seeds0 → b ≡ overlay (each_line (λ l. l.seed1) (lines_of n C (drop at text))) seeds1
            → c ≡ overlay (each_line (public_share_for n e) (lines_of n C (drop at text))) shares
            → made_with true a b c ≡ reports_made (read_sheet text) seeds0 seeds1 shares
        unfolding read_sheet reports_made
        all_made h e at same-e lines a b c first second third =
            rw (first, second, third, ← lines, same-n, same-e, read, made_fit ∙ h)
