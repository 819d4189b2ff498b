-- The first line of a sheet: what is printed is read back, and what is read is printed so.
use Prim.Native.Nat.{ℕ}
use native.Mathlib.Omega.{arith}
use mathlib.Core.Path.{◌≡◌, refl, sym, ap, ◌∙◌}
use mathlib.Core.Bool.{Bool, true, false, cond, ◌&&◌, ◌||◌, or-false}
use mathlib.Core.Logic.{⊎_elim}
use mathlib.Core.List.{List, ◌∷◌, ◌++◌}
use mathlib.Core.Option.{Option, none, some}
use borrow.Author.Tests.{eqb-true}
use lib.ListN.{length, get_or}
use lib.Dec.{eqb}
use Rattle.places.proofs.Lists.{and_left, and_right}
use Rattle.exam_text.specs.Characters.{space, newline, decimal}
use Rattle.exam_text.specs.Sheet.{FiveDigits, expander_number, expander_text}
use Rattle.exam_text.specs.Reader.{is_decimal, leading, is_number, number_then, first_number, behind, second, third, fourth, has_expander, is_first_line, expander_of, after_first_line, length_read, threshold_read, count_read}
use Rattle.exam_text.proofs.LineFields.{or_cases}
use Rattle.exam_text.proofs.NumberText.{printed_then, printed_ends, printed_first, printed_behind, read_below, read_text_lem}

-- a first line, and what stands behind it
abbrev pub first_text : ℕ → ℕ → ℕ → Option ℕ → List ℕ → List ℕ
first_text n t C e rest = decimal n ++ (space ∷ decimal t ++ (space ∷ decimal C ++ (expander_text e ++ (newline ∷ rest))))

-- what is read of a text
pub record FirstLine (cs : List ℕ) (n t C : ℕ) (e : Option ℕ) (rest : List ℕ) : Type 0 where
  pub passes : is_first_line cs ≡ true
  pub n_read : length_read cs ≡ n
  pub t_read : threshold_read cs ≡ t
  pub c_read : count_read cs ≡ C
  pub e_read : expander_of cs ≡ e
  pub rest_read : after_first_line cs ≡ rest

-- ---- a line that is printed is read

module _ (n t C : ℕ) (hn : FiveDigits n) (ht : FiveDigits t) (h_c : FiveDigits C) where
  module _ (x : ℕ) (rest : List ℕ) (k : is_decimal x ≡ false) where
    -- a line from its second number, from its third and from its first on, with the character x behind the third
    abbrev from_t : List ℕ
    from_t = decimal t ++ (space ∷ decimal C ++ (x ∷ rest))

    abbrev from_c : List ℕ
    from_c = decimal C ++ (x ∷ rest)

    abbrev from_n : List ℕ
    from_n = decimal n ++ (space ∷ from_t)

    second_is : second from_n ≡ from_t
    second_is = printed_behind n space from_t hn refl

    third_is : third from_n ≡ from_c
    third_is = ap behind second_is ∙ printed_behind t space from_c ht refl

    fourth_is : fourth from_n ≡ rest
    fourth_is = ap behind third_is ∙ printed_behind C x rest h_c k

    n_is : length_read from_n ≡ n
    n_is = printed_first n space from_t hn refl

    t_is : threshold_read from_n ≡ t
    t_is = ap first_number second_is ∙ printed_first t space from_c ht refl

    c_is : count_read from_n ≡ C
    c_is = ap first_number third_is ∙ printed_first C x rest h_c k

    then_n : number_then space from_n ≡ true
    then_n = printed_ends n space from_t hn refl

    then_t : number_then space (second from_n) ≡ true
    then_t = ap (number_then space) second_is ∙ printed_ends t space from_c ht refl

    then_c : (d : ℕ) → number_then d (third from_n) ≡ eqb x d
    then_c d = ap (number_then d) third_is ∙ printed_then C x rest h_c k d

  pub first_printed : (e : Option ℕ) → FiveDigits (expander_number e) → (rest : List ℕ) → FirstLine (first_text n t C e rest) n t C e rest
  unfolding is_first_line expander_of after_first_line
  first_printed none h rest = record {
    passes = rw (then_n newline rest refl, then_t newline rest refl, then_c newline rest refl newline);
    n_read = n_is newline rest refl;
    t_read = t_is newline rest refl;
    c_read = c_is newline rest refl;
    e_read = rw (then_c newline rest refl space);
    rest_read = rw (then_c newline rest refl space) (fourth_is newline rest refl);
  }
  first_printed (some e) h rest =
      let more : List ℕ = decimal e ++ (newline ∷ rest) in
      let four : fourth (first_text n t C (some e) rest) ≡ more = fourth_is space more refl in
      let last : number_then newline (fourth (first_text n t C (some e) rest)) ≡ true =
      ap (number_then newline) four ∙ printed_ends e newline rest h refl in
      record {
        passes = rw (then_n space more refl, then_t space more refl, then_c space more refl newline, then_c space more refl space, last);
        n_read = n_is space more refl;
        t_read = t_is space more refl;
        c_read = c_is space more refl;
        e_read = rw (then_c space more refl space) (ap (λ (r : List ℕ). some (first_number r)) four ∙ ap some (printed_first e newline rest h refl));
        rest_read = rw (then_c space more refl space) (ap behind four ∙ printed_behind e newline rest h refl);
      }

-- ---- a line that is read is printed

-- a text begins with the first line that is read of it, within bounds
pub record FirstLineRead (cs : List ℕ) : Type 0 where
  pub written : cs ≡ first_text (length_read cs) (threshold_read cs) (count_read cs) (expander_of cs) (after_first_line cs)
  pub t_digits : FiveDigits (threshold_read cs)
  pub e_digits : FiveDigits (expander_number (expander_of cs))

-- one character at most follows a number
one_end : (c d : ℕ) (cs : List ℕ) → number_then c cs ≡ true → number_then d cs ≡ true → c ≡ d
one_end c d cs p q =
    let x : ℕ = get_or cs (length (leading cs)) 0 in
    sym (eqb-true x c (and_right (is_number (leading cs)) (eqb x c) p)) ∙ eqb-true x d (and_right (is_number (leading cs)) (eqb x d) q)

module _ (cs : List ℕ) where
  -- whether a newline follows the third number, and the fourth
  abbrev ended : Bool
  ended = number_then newline (third cs)

  abbrev last_ended : Bool
  last_ended = number_then newline (fourth cs)

  -- the third number and what follows it, by whether the expander is there
  tail_read : (b : Bool) → has_expander cs ≡ b → (ended || (b && last_ended)) ≡ true
      → (third cs ≡ decimal (count_read cs) ++ (expander_text (cond b (some (first_number (fourth cs))) none) ++ (newline ∷ cond b (behind (fourth cs)) (fourth cs))))
      × FiveDigits (expander_number (cond b (some (first_number (fourth cs))) none))
  tail_read true k o =
      let q : last_ended ≡ true =
      ⊎_elim (λ p. absurd (omega (arith, one_end newline space (third cs) p k))) (λ q. q) (or_cases ended last_ended o) in (
        read_text_lem space (third cs) (omega arith) k
            ∙ ap (λ (r : List ℕ). decimal (count_read cs) ++ (space ∷ r)) (read_text_lem newline (fourth cs) (omega arith) q),
        read_below newline (fourth cs) (omega arith) q,
      )
  tail_read false k o =
      (read_text_lem newline (third cs) (omega arith) (sym (or-false ended) ∙ o), omega arith)

  pub first_read : is_first_line cs ≡ true → FirstLineRead cs
  unfolding is_first_line expander_of after_first_line
  first_read e =
      let a = number_then space cs in
      let b = number_then space (second cs) in
      let ab = and_left (a && b) (ended || (has_expander cs && last_ended)) e in
      let n-ended = and_left a b ab in
      let t-ended = and_right a b ab in
      let last = tail_read (has_expander cs) refl (and_right (a && b) (ended || (has_expander cs && last_ended)) e) in
      record {
        written =
            read_text_lem space cs (omega arith) n-ended
            ∙ ap (λ (r : List ℕ). decimal (length_read cs) ++ (space ∷ r))
            (read_text_lem space (second cs) (omega arith) t-ended ∙ ap (λ (r : List ℕ). decimal (threshold_read cs) ++ (space ∷ r)) last.0);
        t_digits = read_below space (second cs) (omega arith) t-ended;
        e_digits = last.1;
      }
