-- The parts of the page of a key, as the code holds it.
use Rattle.std.specs.Prelude.{ℕ, Bool, List, take}
use Rattle.bits.specs.Strings.{Bits, ◌▹◌}
use Rattle.bits.specs.Packing.{unpack}
use Rattle.point.specs.PublicShare.{joined, read_correction}
use Rattle.key_answering.specs.declared.key.Key.{Key}
use Rattle.key_answering.specs.KeyPage.{level_line, shares_line_at, path_lines, page}

-- the bits of its string
abbrev pub string_of : Key → Bits
string_of key = unpack key.n key.string.now

-- the lines of its levels
abbrev pub levels_of : Key → List ℕ
levels_of key = joined key.n (λ k. level_line k (read_correction key.n key.share.now k))

-- the line of the prefix that has the first k bits of its string and then a bit
abbrev pub side_of : Key → List ℕ → ℕ → Bool → List ℕ
side_of key word k bit = shares_line_at key.e key.n (string_of key) key.seed0 key.seed1 key.share.now word (take k (string_of key) ▹ bit)

-- the two lines of bit k of its string
abbrev pub pair_of : Key → ℕ → List ℕ
pair_of key k = path_lines key.e key.n (string_of key) key.seed0 key.seed1 key.share.now k

-- its page
abbrev pub page_of : Key → List ℕ
page_of key = page key.e key.n (string_of key) key.seed0 key.seed1 key.share.now
