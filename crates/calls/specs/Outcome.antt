-- What a call that writes into one lent space returns, and what it leaves there: document 01, 'Causes of refusal'.
use Rattle.std.specs.Prelude.{ℕ, cond, List, [], ◌∷◌, length, Result, Ok, Err}
use Rattle.places.specs.Places.{overlay}
use Rattle.calls.specs.Causes.{Cause}
use Rattle.calls.specs.Refusals.{number_of}
use Rattle.calls.specs.declared.Refusal.{Refusal}
use Rattle.calls.specs.declared.Reply.{Reply}

-- The number returned and the bytes written from the beginning of the lent space on.
pub record Outcome : Type 0 where
  pub number : ℕ
  pub written : List ℕ

-- a refusal: its number, and nothing is written
abbrev pub refused : ℕ → Outcome
refused k = record { number = k; written = [] }

-- success: 0, and what is written
abbrev pub accepted : List ℕ → Outcome
accepted bytes = record { number = 0; written = bytes }

-- the first of the causes that applies refuses, and where none applies the call succeeds
abbrev pub judged : List Cause → List ℕ → Outcome
judged [] bytes = accepted bytes
judged (c ∷ cs) bytes = cond c.test (refused c.number) (judged cs bytes)

-- The number and the length that a call returns, and the lent space at exit.
pub record Exit : Type 0 where
  pub number : ℕ
  pub length : ℕ
  pub area : List ℕ

-- those of an outcome, where the space held these bytes at entry: what is written stands in the place of its beginning, the rest is as it was
abbrev pub exit : Outcome → List ℕ → Exit
exit o entry = record { number = o.number; length = length o.written; area = overlay o.written entry }

-- how many bytes were written, or the refusal, and the space as it was left
abbrev pub answered : Result ℕ Refusal → List ℕ → Exit
answered (Ok length) area = record { number = 0; length = length; area = area }
answered (Err refusal) area = record { number = number_of refusal; length = 0; area = area }

-- the same as C is told
abbrev pub left : Reply → List ℕ → Exit
left r area = record { number = r.number; length = r.length; area = area }
