-- The number of a refusal that a `?` hands on, and what C is told of what `share_kept` answers.
use Rattle.std.proofs.Common.{◌≡◌, ℕ, List, ap, Result, Ok, Err}
use Rattle.std.specs.Prelude.{IsErrAnd}
use Rattle.calls.specs.Refusals.{number_of, number_in}
use Rattle.calls.specs.Outcome.{Exit, left, answered}
use Rattle.calls.specs.declared.Refusal.{Refusal}
use Rattle.calls.specs.declared.Reply.{Reply}
use Rattle.point.specs.Node.{Node}
use Rattle.node_lists.specs.ShareKept.{kept_left, kept_answered}

pub handed : {A : Type 0} (refusal : Refusal) (r : Result A Refusal) → IsErrAnd r (λ e. e ≡ refusal) → number_in r ≡ number_of refusal
handed refusal (Ok x) h = absurd h
handed refusal (Err e) h = ap number_of h

pub kept_told : (r : Reply) (answer : Result ℕ Refusal) (area : List ℕ) (nodes : List Node) → left r area ≡ answered answer area
    → kept_left r area nodes ≡ kept_answered answer area nodes
kept_told r (Ok n) area nodes h = rw (ap (λ (x : Exit). x.number) h, ap (λ (x : Exit). x.length) h)
kept_told r (Err e) area nodes h = rw (ap (λ (x : Exit). x.number) h, ap (λ (x : Exit). x.length) h)
