-- `exam_reading::lines::is_line` meets its contract: each test is one of the definition's.
use Prim.Native.Nat.{ℕ}
use Rattle.std.proofs.Common.{arith, ◌≡◌, ◌&&◌, ◌+◌, ◌-◌, ◌∙◌, sym, List, take, drop, eqb, get_or}
use lib.Seq.{take-take, get_or-take, get_or-drop}
use Rattle.exam_text.specs.Reader.{is_line, are_bits, are_hex}
use Rattle.exam_reading.proofs.lines.is_line.Goals as goal
use Rattle.exam_reading.proofs.lines.is_line.Goals.{then-are_bits, else-are_bits, then-line-n-eq32, else-line-n-eq32}

-- what is said of a part of 33 characters, said of the line
seed_lem : (l : List ℕ) (from to last then : ℕ) → to ≡ from + 33 → last ≡ from + 32
    → (are_hex (take 32 (take (to - from) (drop from l))) && eqb (get_or (take (to - from) (drop from l)) 32 0) then)
    ≡ (are_hex (take 32 (drop from l)) && eqb (get_or l last 0) then)
seed_lem l from to last then e f =
    let size : to - from ≡ 33 = omega arith in
    rw (size, f, take-take 32 33 (drop from l) (omega arith), get_or-take 33 (drop from l) 32 0 (omega arith), get_or-drop from l 32 0)

pub returns-then-seed_then : goal.returns-then-seed_then
unfolding is_line
returns-then-seed_then c =
    let l = c.args.line.now in
    let n = c.args.n in
    let v1 : c.if-are_bits.value ≡ (are_bits (take n l) && eqb (get_or l n 0) 32) =
    elim c.if-are_bits.branch [
      | then-are_bits w ↦ rw (sym c.are_bits.ensures ∙ w.if-are_bits.true) w.value-is
      | else-are_bits w ↦ rw (sym c.are_bits.ensures ∙ w.if-are_bits.false) (w.value-is ∙ w.if-are_bits.false)
    ] in
    let v2 : c.if-line-n-eq32.value ≡ (are_bits (take n l) && eqb (get_or l n 0) 32 && are_hex (take 32 (drop (n + 1) l)) && eqb (get_or l (n + 33) 0) 32) =
    elim c.if-line-n-eq32.branch [
      | then-line-n-eq32 w ↦ rw (sym v1 ∙ w.if-line-n-eq32.true) (w.value-is ∙ w.seed_then.ensures ∙ seed_lem l (n + 1) (n + 34) (n + 33) 32 (omega arith) (omega arith))
      | else-line-n-eq32 w ↦ rw (sym v1 ∙ w.if-line-n-eq32.false) (w.value-is ∙ w.if-line-n-eq32.false)
    ] in
    rw (sym v2 ∙ c.if-seed_then.true) (c.seed_then-then-seed_then.ensures ∙ seed_lem l (n + 34) (n + 67) (n + 66) 10 (omega arith) (omega arith))

pub returns-else-seed_then : goal.returns-else-seed_then
unfolding is_line
returns-else-seed_then c =
    let l = c.args.line.now in
    let n = c.args.n in
    let v1 : c.if-are_bits.value ≡ (are_bits (take n l) && eqb (get_or l n 0) 32) =
    elim c.if-are_bits.branch [
      | then-are_bits w ↦ rw (sym c.are_bits.ensures ∙ w.if-are_bits.true) w.value-is
      | else-are_bits w ↦ rw (sym c.are_bits.ensures ∙ w.if-are_bits.false) (w.value-is ∙ w.if-are_bits.false)
    ] in
    let v2 : c.if-line-n-eq32.value ≡ (are_bits (take n l) && eqb (get_or l n 0) 32 && are_hex (take 32 (drop (n + 1) l)) && eqb (get_or l (n + 33) 0) 32) =
    elim c.if-line-n-eq32.branch [
      | then-line-n-eq32 w ↦ rw (sym v1 ∙ w.if-line-n-eq32.true) (w.value-is ∙ w.seed_then.ensures ∙ seed_lem l (n + 1) (n + 34) (n + 33) 32 (omega arith) (omega arith))
      | else-line-n-eq32 w ↦ rw (sym v1 ∙ w.if-line-n-eq32.false) (w.value-is ∙ w.if-line-n-eq32.false)
    ] in
    rw (sym v2 ∙ c.if-seed_then.false) c.if-seed_then.false
