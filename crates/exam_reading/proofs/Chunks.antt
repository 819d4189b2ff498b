-- The chunks of one length that a text is, as the library goes over them; and lines as such chunks.
use Prim.Native.Nat.{ℕ, zero, suc, ◌*◌, ◌≤◌, ◌<◌}
use native.Mathlib.Omega.{arith}
use mathlib.Core.Path.{◌≡◌, sym, ap, ◌∙◌, subst}
use mathlib.Core.Bool.{◌&&◌}
use mathlib.Core.List.{List}
use borrow.Author.Tests.{le-leb, eq-eqb}
use lib.ListN.{length, take, drop, length-append, length-drop}
use lib.Seq.{take_at, drop_at}
use Rattle.std.specs.declared.slice.ChunksExact.{ChunksExact}
use Rattle.std.specs.Iterator.{AlwaysYields}
use Rattle.std.specs.List.{list_all}
use Rattle.std.specs.Slice.Iter.{chunks_exact_rest, chunks_exact_size, chunks_exact_steps}
use Rattle.std.proofs.lemmas.Iterator.{YieldsList}
use Rattle.query.specs.Query.{parts}
use Rattle.query.proofs.Parts.{peel}
use Rattle.exam_text.specs.Reader.{line_length, is_line, are_lines}

-- a text of m * w characters is gone over in m of them
yields : (w m : ℕ) (s : ChunksExact ℕ) → 0 < w → chunks_exact_size s ≡ w → length (chunks_exact_rest s) ≡ m * w
    → AlwaysYields chunks_exact_steps (λ x. x.now) s (parts w m (chunks_exact_rest s))
unfolding parts
yields w zero s p e l = λ x j h. omega (arith, ap length h.1.0, length-append x.now (chunks_exact_rest j))
yields w (suc m) s p e l = (
  λ j h. omega (arith, peel (suc m) w (omega arith)),
  λ x j h.
      let first : take w (chunks_exact_rest s) ≡ x.now = rw h.1.0 (take_at x.now (chunks_exact_rest j) w (h.1.1 ∙ e)) in
      let later : chunks_exact_rest j ≡ drop w (chunks_exact_rest s) = rw h.1.0 (sym (drop_at x.now (chunks_exact_rest j) w (h.1.1 ∙ e))) in
      let left : length (chunks_exact_rest j) ≡ m * w = omega (arith, ap length later, length-drop w (chunks_exact_rest s), peel (suc m) w (omega arith)) in
      (sym first, subst (λ (cs : List ℕ). AlwaysYields chunks_exact_steps (λ x. x.now) j (parts w m cs)) later (yields w m j p (h.0 ∙ e) left)),
)

pub parts_yield : (w m : ℕ) (cs : List ℕ) (s : ChunksExact ℕ) → 0 < w → chunks_exact_size s ≡ w → chunks_exact_rest s ≡ cs → length cs ≡ m * w
    → YieldsList chunks_exact_steps (λ x. x.now) s (parts w m cs)
parts_yield w m cs s p e f l = record { runs = subst (λ (r : List ℕ). AlwaysYields chunks_exact_steps (λ x. x.now) s (parts w m r)) f (yields w m s p e (ap length f ∙ l)) }

-- lines are chunks that are lines
pub lines_parts : (n m : ℕ) (cs : List ℕ) → length cs ≡ m * line_length n → list_all (is_line n) (parts (line_length n) m cs) ≡ are_lines n m cs
unfolding parts are_lines
lines_parts n zero cs l = sym (eq-eqb (length cs) 0 (omega arith))
lines_parts n (suc m) cs l =
    let p : line_length n ≤ length cs = omega (arith, peel (suc m) (line_length n) (omega arith)) in
    let q : length (drop (line_length n) cs) ≡ m * line_length n = omega (arith, length-drop (line_length n) cs, peel (suc m) (line_length n) (omega arith)) in
    rw (le-leb (line_length n) (length cs) p) (ap (λ b. is_line n (take (line_length n) cs) && b) (lines_parts n m (drop (line_length n) cs) q))
