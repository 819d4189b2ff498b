-- The reports of a sheet's lines: root seeds and public shares, written line by line.
use Prim.Native.Nat.{ℕ, suc, ◌*◌, ◌≤◌, ◌<◌}
use native.Mathlib.Nat.{mul-le-mul_left, le_trans}
use native.Mathlib.Omega.{arith}
use mathlib.Core.Path.{◌≡◌, sym, ap, ◌∙◌}
use mathlib.Core.Bool.{true}
use mathlib.Core.List.{List}
use lib.ListN.{length, get_or, drop}
use Rattle.places.specs.Places.{put_at, overlay}
use Rattle.places.proofs.Places.{put_at_nil, put_at_length, put_at_overlay}
use Rattle.expander.specs.Expander.{is_expander}
use Rattle.point.specs.PublicShare.{joined, public_share_length}
use Rattle.point.proofs.Joined.{joined_length}
use Rattle.exam_text.specs.Sheet.{Line}
use Rattle.exam_text.specs.Reader.{are_lines, lines_of, no_line}
use Rattle.exam_text.proofs.SheetTests.{lines_count}
use Rattle.exam_text.proofs.Placed.{line_placed}
use Rattle.exam_reports.specs.SheetReports.{each_line, public_share_for}
use Rattle.exam_reports.proofs.EachLine.{each_joined}
use Rattle.exam_reports.proofs.LineKeys.{key_size, nth_line, sound_at}
use Rattle.exam_reports.proofs.PiecesPut.{joined_same, put_next}

-- Where the reports are written: both servers' root seeds, and the public shares.
pub record Areas : Type 0 where
  pub seeds0 : List ℕ
  pub seeds1 : List ℕ
  pub shares : List ℕ

abbrev pub areas : List ℕ → List ℕ → List ℕ → Areas
areas seeds0 seeds1 shares = record { seeds0 = seeds0; seeds1 = seeds1; shares = shares }

-- There is room for the reports of C lines.
pub record Room (n C : ℕ) (old : Areas) : Type 0 where
  pub seeds0 : 16 * C ≤ length old.seeds0
  pub seeds1 : 16 * C ≤ length old.seeds1
  pub shares : public_share_length n * C ≤ length old.shares

-- Room for some lines is room for fewer.
pub room_less : (n i C : ℕ) (old : Areas) → i ≤ C → Room n C old → Room n i old
room_less n i C old h room = record {
  seeds0 = omega (arith, room.seeds0);
  seeds1 = omega (arith, room.seeds1);
  shares = let less : public_share_length n * i ≤ public_share_length n * C = mul-le-mul_left (public_share_length n) h in le_trans less room.shares;
}

-- The reports of the first i lines are written.
pub record Written (n expander : ℕ) (text : List ℕ) (at i : ℕ) (old new : Areas) : Type 0 where
  pub seeds0 : new.seeds0 ≡ put_at old.seeds0 0 (joined i (λ j. (nth_line text at n j).seed0))
  pub seeds1 : new.seeds1 ≡ put_at old.seeds1 0 (joined i (λ j. (nth_line text at n j).seed1))
  pub shares : new.shares ≡ put_at old.shares 0 (joined i (λ j. public_share_for n expander (nth_line text at n j)))

pub written_none : (n expander : ℕ) (text : List ℕ) (at : ℕ) (old : Areas) → Written n expander text at 0 old old
unfolding joined
written_none n expander text at old = record {
  seeds0 = sym (put_at_nil old.seeds0 0);
  seeds1 = sym (put_at_nil old.seeds1 0);
  shares = sym (put_at_nil old.shares 0);
}

-- The areas keep their lengths.
pub written_lengths : (n expander : ℕ) (text : List ℕ) (at i : ℕ) (old new : Areas) → Written n expander text at i old new
    → (length new.seeds0 ≡ length old.seeds0) × (length new.seeds1 ≡ length old.seeds1) × (length new.shares ≡ length old.shares)
written_lengths n expander text at i old new written = (
  ap length written.seeds0 ∙ put_at_length old.seeds0 0 _,
  ap length written.seeds1 ∙ put_at_length old.seeds1 0 _,
  ap length written.shares ∙ put_at_length old.shares 0 _,
)

-- The text has C lines from place `at` on, for strings of 1 to 32 bits, and there is room for their reports.
module _ (n expander : ℕ) (from : 1 ≤ n) (to : n ≤ 32) (known : is_expander expander ≡ true) (text : List ℕ) (at C : ℕ)
    (laid : are_lines n C (drop at text) ≡ true) (old : Areas) (room : Room n C old) where
  abbrev first : ℕ → List ℕ
  first j = (nth_line text at n j).seed0

  abbrev second : ℕ → List ℕ
  second j = (nth_line text at n j).seed1

  abbrev key : ℕ → List ℕ
  key j = public_share_for n expander (nth_line text at n j)

  first_size : (j : ℕ) → j < C → length (first j) ≡ 16
  first_size j l = (sound_at text at n C j l to laid).sized0.size

  second_size : (j : ℕ) → j < C → length (second j) ≡ 16
  second_size j l = (sound_at text at n C j l to laid).sized1.size

  key_length : (j : ℕ) → j < C → length (key j) ≡ public_share_length n
  key_length j l = key_size n expander from to known (nth_line text at n j) (sound_at text at n C j l to laid)

  -- One line more.
  pub written_more : (i : ℕ) → i < C → (new : Areas) → Written n expander text at i old new → (next : Areas)
      → next.seeds0 ≡ put_at new.seeds0 (16 * i) (first i) → next.seeds1 ≡ put_at new.seeds1 (16 * i) (second i)
      → next.shares ≡ put_at new.shares (public_share_length n * i) (key i) → Written n expander text at (suc i) old next
  written_more i h new written next put0 put1 put =
      let fits = room_less n (suc i) C old h room in
      record {
        seeds0 = put_next 16 i first _ _ _ (λ j l. first_size j (omega arith)) fits.seeds0 written.seeds0 put0;
        seeds1 = put_next 16 i second _ _ _ (λ j l. second_size j (omega arith)) fits.seeds1 written.seeds1 put1;
        shares = put_next (public_share_length n) i key _ _ _ (λ j l. key_length j (omega arith)) fits.shares written.shares put;
      }

  -- What was written for all lines.
  module _ (new : Areas) (written : Written n expander text at C old new) where
    abbrev lines : List Line
    lines = lines_of n C (drop at text)

    each : (f : Line → List ℕ) → joined C (λ j. f (nth_line text at n j)) ≡ each_line f lines
    each f =
        joined_same C (λ j. f (nth_line text at n j)) (λ j. f (get_or lines j no_line)) (λ j l. ap f (sym (line_placed text at n C j l to laid no_line)))
        ∙ ap (λ (m : ℕ). joined m (λ j. f (get_or lines j no_line))) (sym (lines_count n C (drop at text)))
        ∙ sym (each_joined f lines no_line)

    all_put : (w : ℕ) (f : Line → List ℕ) (area area' : List ℕ) → ((j : ℕ) → j < C → length (f (nth_line text at n j)) ≡ w) → w * C ≤ length area
        → area' ≡ put_at area 0 (joined C (λ j. f (nth_line text at n j))) → area' ≡ overlay (each_line f lines) area
    all_put w f area area' sized fits is =
        let all = joined C (λ j. f (nth_line text at n j)) in
        is
        ∙ put_at_overlay area all (omega (arith, joined_length w (λ j. f (nth_line text at n j)) C sized, fits))
        ∙ ap (λ (bytes : List ℕ). overlay bytes area) (each f)

    pub written_all : (new.seeds0 ≡ overlay (each_line (λ l. l.seed0) lines) old.seeds0)
        × ((new.seeds1 ≡ overlay (each_line (λ l. l.seed1) lines) old.seeds1) × (new.shares ≡ overlay (each_line (public_share_for n expander) lines) old.shares))
    written_all = (
      all_put 16 (λ l. l.seed0) old.seeds0 new.seeds0 first_size room.seeds0 written.seeds0,
      (
        all_put 16 (λ l. l.seed1) old.seeds1 new.seeds1 second_size room.seeds1 written.seeds1,
        all_put (public_share_length n) (public_share_for n expander) old.shares new.shares key_length room.shares written.shares,
      ),
    )
