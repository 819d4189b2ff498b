-- The parts of a line: each is found at its place, and a line is joined of them.
use Prim.Native.Nat.{ℕ, suc, ◌+◌, ◌<◌}
use native.Mathlib.Omega.{arith}
use mathlib.Core.Path.{◌≡◌, refl, sym, ap, ◌∙◌}
use mathlib.Core.List.{List, [], ◌∷◌, ◌++◌}
use lib.ListN.{length, get_or, take, drop, length-append, length-drop, take-append-drop, drop_of_length-le}
use lib.Seq.{take_at, get_or_at, drop-cons, drop-drop, drop-append-add, get_or-append-add, length-take-le}
use Rattle.exam_text.specs.Reader.{line_length, string_part, seed0_part, seed1_part}

-- three fields with a character behind each
abbrev pub joined : List ℕ → ℕ → List ℕ → ℕ → List ℕ → ℕ → List ℕ
joined a x b y c z = a ++ (x ∷ b ++ (y ∷ c ++ (z ∷ [])))

module _ (n : ℕ) (a b c : List ℕ) (x y z : ℕ) (la : length a ≡ n) (lb : length b ≡ 32) (lc : length c ≡ 32) where
  abbrev all : List ℕ
  all = joined a x b y c z

  pub joined_length : length all ≡ n + 67
  joined_length =
      length-append a (x ∷ b ++ (y ∷ c ++ (z ∷ [])))
      ∙ rw (length-append b (y ∷ c ++ (z ∷ [])), length-append c (z ∷ []), la, lb, lc) (omega arith)

  pub joined_string : string_part n all ≡ a
  joined_string = take_at a (x ∷ b ++ (y ∷ c ++ (z ∷ []))) n la

  pub joined_first : get_or all n 0 ≡ x
  joined_first = get_or_at a x (b ++ (y ∷ c ++ (z ∷ []))) 0 n la

  pub joined_seed0 : seed0_part n all ≡ b
  joined_seed0 = rw (← la, drop-append-add a (x ∷ b ++ (y ∷ c ++ (z ∷ []))) 1) (take_at b (y ∷ c ++ (z ∷ [])) 32 lb)

  pub joined_second : get_or all (n + 33) 0 ≡ y
  joined_second = rw (← la, get_or-append-add a (x ∷ b ++ (y ∷ c ++ (z ∷ []))) 33 0) (get_or_at b y (c ++ (z ∷ [])) 0 32 lb)

  pub joined_seed1 : seed1_part n all ≡ c
  joined_seed1 =
      let e : 33 ≡ length b + 1 = rw lb refl in
      rw (← la, drop-append-add a (x ∷ b ++ (y ∷ c ++ (z ∷ []))) 34)
      (ap (λ (k : ℕ). take 32 (drop k (b ++ (y ∷ c ++ (z ∷ []))))) e
      ∙ ap (take 32) (drop-append-add b (y ∷ c ++ (z ∷ [])) 1)
      ∙ take_at c (z ∷ []) 32 lc)

  pub joined_third : get_or all (n + 66) 0 ≡ z
  joined_third =
      let e : 65 ≡ length b + 33 = rw lb refl in
      rw (← la, get_or-append-add a (x ∷ b ++ (y ∷ c ++ (z ∷ []))) 66 0)
      (ap (λ (k : ℕ). get_or (b ++ (y ∷ c ++ (z ∷ []))) k 0) e
      ∙ get_or-append-add b (y ∷ c ++ (z ∷ [])) 33 0
      ∙ get_or_at c z [] 0 32 lc)

-- m characters, the one behind them and the rest
cut : (cs : List ℕ) (m i j k : ℕ) → i + m ≡ j → suc j ≡ k → j < length cs → take m (drop i cs) ++ (get_or cs j 0 ∷ drop k cs) ≡ drop i cs
cut cs m i j k e f h =
    ap (λ (r : List ℕ). take m (drop i cs) ++ r) (rw (← f, ← drop-cons cs j 0 h, ← e, drop-drop m i cs))
    ∙ take-append-drop m (drop i cs)

-- a text of the right length is joined of its parts
module _ (n : ℕ) (cs : List ℕ) (l : length cs ≡ line_length n) where
  pub whole_line : joined (string_part n cs) (get_or cs n 0) (seed0_part n cs) (get_or cs (n + 33) 0) (seed1_part n cs) (get_or cs (n + 66) 0) ≡ cs
  whole_line =
      let end : drop (n + 67) cs ≡ [] = drop_of_length-le cs {i = n + 67} (omega arith) in
      let third : seed1_part n cs ++ (get_or cs (n + 66) 0 ∷ []) ≡ drop (n + 34) cs =
      ap (λ (r : List ℕ). seed1_part n cs ++ (get_or cs (n + 66) 0 ∷ r)) (sym end) ∙ cut cs 32 (n + 34) (n + 66) (n + 67) (omega arith) (omega arith) (omega arith) in
      let second : seed0_part n cs ++ (get_or cs (n + 33) 0 ∷ drop (n + 34) cs) ≡ drop (n + 1) cs =
      cut cs 32 (n + 1) (n + 33) (n + 34) (omega arith) (omega arith) (omega arith) in
      rw (third, second) (cut cs n 0 n (n + 1) (omega arith) (omega arith) (omega arith))

  pub string_length : length (string_part n cs) ≡ n
  string_length = length-take-le n cs (omega arith)

  pub seed0_length : length (seed0_part n cs) ≡ 32
  seed0_length = length-take-le 32 (drop (n + 1) cs) (omega (arith, length-drop (n + 1) cs))

  pub seed1_length : length (seed1_part n cs) ≡ 32
  seed1_length = length-take-le 32 (drop (n + 34) cs) (omega (arith, length-drop (n + 34) cs))
