-- The word of memory that a text of the form NAME[INDEX] names.
-- Source: docs/FORMATS.md, "Side files".
use Rattle.std.specs.Prelude.{◌≡◌, ℕ, ◌+◌, ◌-◌, ◌^◌, ◌<◌, ◌&&◌, ◌==◌, nat_lt, if◌then◌else◌, List, [], ◌∷◌, ◌++◌, length, take, drop, IsSomeAnd, Option, None, Some, decimal}
use Rattle.std.specs.Option.{option_map}
use Rattle.gr_text.specs.LineReading as reading
use Rattle.gr_text.specs.LineReading.{◌>>=◌, same}
use Rattle.gr_places.specs.Types.{Word, Global, Local}
use Rattle.gr_places.specs.SideLines.{BufferSaid, element_of}

-- an index in brackets
abbrev pub in_brackets : ℕ → List ℕ
in_brackets k = 91 ∷ (decimal k ++ (93 ∷ []))

-- the text is the name, then the index in brackets
abbrev pub IsText : List ℕ → ℕ → List ℕ → Type 0
IsText name k text = text ≡ name ++ in_brackets k

-- the number of a word
abbrev pub number_of : Word → ℕ
number_of (Global n) = n
number_of (Local g n) = n

-- the text names the word's buffer and its place in it, by the first line that has the word
pub record IsSaid (lines : List BufferSaid) (text : List ℕ) (w : Word) : Type 0 where
  pub said : IsSomeAnd (element_of lines w) (λ e. IsText e.name e.index text)
  pub small : number_of w < 2 ^ 32

-- ---- how the word is found

-- what comes after these bytes at the front, and before these at the end, if they are there
unfoldable pub after : List ℕ → List ℕ → Option (List ℕ)
after front bytes = if same (take (length front) bytes) front then Some (drop (length front) bytes) else None

unfoldable pub before : List ℕ → List ℕ → Option (List ℕ)
before back bytes = if same (drop (length bytes - length back) bytes) back then Some (take (length bytes - length back) bytes) else None

-- the index in a text that is this name, then an index in brackets
unfoldable pub index_after : List ℕ → List ℕ → Option ℕ
index_after name text = after name text >>= after (91 ∷ []) >>= before (93 ∷ []) >>= reading.number_of

-- first + k, if it is below 2^32 and k is below words
abbrev pub number_at : ℕ → ℕ → ℕ → Option ℕ
number_at first words k = if nat_lt k words && nat_lt (first + k) (2 ^ 32) then Some (first + k) else None

abbrev pub word_from : Word → ℕ → ℕ → Option Word
word_from (Global first) words k = option_map Global (number_at first words k)
word_from (Local g first) words k = option_map (Local g) (number_at first words k)

-- the word at an index of a line
abbrev pub word_at : BufferSaid → ℕ → Option Word
word_at b k = word_from b.first b.words k

-- a word, if the first line that has it gives it this name and this index
abbrev pub word_if : List BufferSaid → List ℕ → ℕ → Word → Option Word
word_if lines name k w = element_of lines w >>= λ e. if (e.index == k) && same e.name name then Some w else None

-- the word of a line that the text names, if the first line that has the word has the name of this line
unfoldable pub word_in : List BufferSaid → BufferSaid → List ℕ → Option Word
word_in lines line text = index_after line.name text >>= λ k. word_at line k >>= word_if lines line.name k
