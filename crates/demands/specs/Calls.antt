-- Every call with all that it is lent, its causes, and what it returns and leaves, each by its own definitions.
use Rattle.std.specs.Prelude.{ℕ, suc, ◌*◌, ◌/◌, ◌<◌, Bool, true, false, cond, List, [], ◌∷◌, length, ℤ, eqb}
use Rattle.std.proofs.Math.Option.{Option, none}
use Rattle.places.specs.Lists.{All}
use Rattle.calls.specs.Bounds.{space_cause}
use Rattle.calls.specs.Causes.{Cause}
use Rattle.calls.specs.Outcome.{Outcome, exit}
use Rattle.point.specs.Node.{Node}
use Rattle.query.specs.Query.{prefixes_of}
use Rattle.keymaker.specs.Key.{key_causes, key_outcome}
use Rattle.idpf.specs.Share.{share_causes, share_outcome}
use Rattle.node_lists.specs.NodeList.{share_count}
use Rattle.node_lists.specs.Roots.{roots_causes, roots_number, roots_after}
use Rattle.node_lists.specs.ShareKept.{KeptLent, causes_of, kept_outcome, nodes_after}
use Rattle.shares.specs.Add.{add_causes, add_outcome}
use Rattle.combine.specs.Answer.{Kind}
use Rattle.combine.specs.Combine.{combine_causes, combine_outcome, combine_kind}
use Rattle.search.specs.Search.{Lent, search_causes, search_number, record_length, list_length, record_after, list_after}
use Rattle.honest.specs.Honest.{AreBytes}
use Rattle.exam_answering.specs.Exam.{exam_causes, exam_outcome, output, respond_outcome}
use Rattle.exam_lines.specs.Lines.{refused_text, refused_outcome}
use Rattle.capi.specs.Block.{block_causes, block_outcome}

-- ---- what each call is lent: numbers; slices that it reads; and `out`, the area that it writes. Every slice is one of bytes, or a list of nodes.

-- The key maker.
pub record KeyLent : Type 0 where
  pub n : ℕ
  pub expander : ℕ
  pub weight : ℤ
  pub string : List ℕ
  pub seed0 : List ℕ
  pub seed1 : List ℕ
  pub out : List ℕ
  pub bytes : All AreBytes (string ∷ seed0 ∷ seed1 ∷ out ∷ [])

-- A server's share for a query.
pub record ShareLent : Type 0 where
  pub n : ℕ
  pub expander : ℕ
  pub server : Bool
  pub seeds : List ℕ
  pub public_shares : List ℕ
  pub query : List ℕ
  pub out : List ℕ
  pub bytes : All AreBytes (seeds ∷ public_shares ∷ query ∷ out ∷ [])

-- A server's share from kept nodes.
pub record KeptShareLent : Type 0 where
  pub lent : KeptLent
  pub bytes : All AreBytes (lent.shares ∷ lent.last ∷ lent.query ∷ lent.area ∷ [])

-- A list of nodes, to be written at the roots.
pub record RootsLent : Type 0 where
  pub server : Bool
  pub seeds : List ℕ
  pub nodes : List Node
  pub bytes : All AreBytes (seeds ∷ [])

-- Two shares of one server, to be added.
pub record AddLent : Type 0 where
  pub share0 : List ℕ
  pub share1 : List ℕ
  pub out : List ℕ
  pub bytes : All AreBytes (share0 ∷ share1 ∷ out ∷ [])

-- Combining two shares for a query.
pub record CombineLent : Type 0 where
  pub n : ℕ
  pub weighted : Bool
  pub t : ℕ
  pub query : List ℕ
  pub share0 : List ℕ
  pub share1 : List ℕ
  pub out : List ℕ
  pub bytes : All AreBytes (query ∷ share0 ∷ share1 ∷ out ∷ [])

-- The whole search.
pub record SearchLent : Type 0 where
  pub lent : Lent
  pub bytes : All AreBytes (lent.seeds0 ∷ lent.shares0 ∷ lent.seeds1 ∷ lent.shares1 ∷ lent.record_area ∷ lent.list_area ∷ [])

-- An exam text.
pub record TextLent : Type 0 where
  pub text : List ℕ
  pub out : List ℕ
  pub bytes : All AreBytes (text ∷ out ∷ [])

-- The line of a refusal.
pub record LineLent : Type 0 where
  pub refusal : ℕ
  pub out : List ℕ
  pub bytes : All AreBytes (out ∷ [])

-- Block j of a seed.
pub record BlockLent : Type 0 where
  pub expander : ℕ
  pub seed : List ℕ
  pub j : ℕ
  pub out : List ℕ
  pub bytes : All AreBytes (seed ∷ out ∷ [])

-- ---- the calls

-- `make_key`, `share`, `share_kept`, `write_roots`, `add_shares`, `combine` and `search`; `answer`, `refused_line` and `respond` of the exam; `tally_block`.
pub data Call : Type 0 where
  make_key : KeyLent → Call
  server_share : ShareLent → Call
  kept_share : KeptShareLent → Call
  list_roots : RootsLent → Call
  add_shares : AddLent → Call
  combining : CombineLent → Call
  whole_search : SearchLent → Call
  exam_answer : TextLent → Call
  refused_line : LineLent → Call
  exam_output : TextLent → Call
  one_block : BlockLent → Call

-- its causes, each with its number, its condition and its test, in the order in which they are judged
abbrev pub causes : Call → List Cause
causes (make_key l) = key_causes l.n l.expander l.string l.seed0 l.seed1 (length l.out)
causes (server_share l) = share_causes l.n l.expander l.seeds l.public_shares l.query (length l.out)
causes (kept_share l) = causes_of l.lent
causes (list_roots l) = roots_causes l.seeds (length l.nodes)
causes (add_shares l) = add_causes l.share0 l.share1 (length l.out)
causes (combining l) = combine_causes l.n l.weighted l.t l.query l.share0 l.share1 (length l.out)
causes (whole_search l) = search_causes l.lent
causes (exam_answer l) = exam_causes l.text (length l.out)
causes (refused_line l) = space_cause (length (refused_text l.refusal)) (length l.out) ∷ []
causes (exam_output l) = space_cause (length (output l.text)) (length l.out) ∷ []
causes (one_block l) = block_causes l.expander l.seed (length l.out)

-- the order of the papers: 'The lowest number that applies is returned, except that 10 is judged first', and document 02, [1]: '12 .. in the place
-- of 2', [2]: 'after 9: 13 .. 14'
abbrev pub order : List ℕ
order = 10 ∷ 1 ∷ 2 ∷ 12 ∷ 3 ∷ 4 ∷ 5 ∷ 6 ∷ 7 ∷ 8 ∷ 9 ∷ 13 ∷ 14 ∷ 11 ∷ []

-- how many numbers stand before k in a list
abbrev pub before : ℕ → List ℕ → ℕ
before k [] = 0
before k (x ∷ xs) = cond (eqb k x) 0 (suc (before k xs))

-- where a number stands in that order
abbrev pub rank : ℕ → ℕ
rank k = before k order

-- the causes stand in that order
abbrev pub InOrder : List Cause → Type 0
InOrder [] = Unit {0}
InOrder (c ∷ []) = Unit {0}
InOrder (c ∷ d ∷ cs) = (rank c.number < rank d.number) × InOrder (d ∷ cs)

-- ---- what a call returns and leaves

-- A lent area that a call may write (what it only reads is lent by `&`, and cannot change): its bytes at entry and at exit, the length that is returned
-- for it, and whether it is the record area of a search.
pub record Area : Type 0 where
  pub entry : List ℕ
  pub exit : List ℕ
  pub returned : ℕ
  pub is_record : Bool

-- A lent list of nodes that a call may write: its nodes at entry and at exit, and how many from the beginning on are written where the call succeeds.
pub record Nodes : Type 0 where
  pub entry : List Node
  pub exit : List Node
  pub used : ℕ

-- The number, the areas, the lists of nodes, and the kind of answer that combining names; no other call names one.
pub record Result : Type 0 where
  pub number : ℕ
  pub areas : List Area
  pub lists : List Nodes
  pub kind : Option Kind

-- an outcome with its bytes in the place of the beginning of one area
abbrev pub into : List ℕ → Option Kind → Outcome → Result
into out kind o =
    let x = exit o out in
    record { number = x.number; areas = record { entry = out; exit = x.area; returned = x.length; is_record = false } ∷ []; lists = []; kind = kind }

-- what the contracts say of number, lengths, areas and nodes: `key_exit`, `share_exit`, `kept_exit`, `add_exit`, `combine_exit`, `search_ending`, `exam_exit`,
-- `respond_exit` and `block_exit` are these, part by part: `exit` of the same outcomes, and the own of the kept share, of the roots and of the search
abbrev pub result : Call → Result
result (make_key l) = into l.out none (key_outcome l.n l.expander l.weight l.string l.seed0 l.seed1 (length l.out))
result (server_share l) = into l.out none (share_outcome l.n l.expander l.server l.seeds l.public_shares l.query (length l.out))
result (kept_share l) =
    let s = l.lent in
    record {
      number = (kept_outcome s).number;
      areas = (into s.area none (kept_outcome s)).areas;
      lists = record { entry = s.nodes; exit = nodes_after s; used = share_count s.n s.shares * length (prefixes_of s.query) } ∷ [];
      kind = none;
    }
result (list_roots l) = record {
  number = roots_number l.seeds (length l.nodes);
  areas = [];
  lists = record { entry = l.nodes; exit = roots_after l.server l.seeds l.nodes; used = length l.seeds / 16 } ∷ [];
  kind = none;
}
result (add_shares l) = into l.out none (add_outcome l.share0 l.share1 (length l.out))
result (combining l) =
    into l.out (combine_kind l.n l.weighted l.t l.query l.share0 l.share1 (length l.out))
    (combine_outcome l.n l.weighted l.t l.query l.share0 l.share1 (length l.out))
result (whole_search l) = record {
  number = search_number l.lent;
  areas =
      record { entry = l.lent.record_area; exit = record_after l.lent; returned = record_length l.lent; is_record = true }
      ∷ record { entry = l.lent.list_area; exit = list_after l.lent; returned = list_length l.lent; is_record = false }
      ∷ [];
  lists = [];
  kind = none;
}
result (exam_answer l) = into l.out none (exam_outcome l.text (length l.out))
result (refused_line l) = into l.out none (refused_outcome l.refusal (length l.out))
result (exam_output l) = into l.out none (respond_outcome l.text (length l.out))
result (one_block l) = into l.out none (block_outcome l.expander l.seed l.j (length l.out))
