-- What the lines of side files say.
-- Source: docs/FORMATS.md, "Side files".
use Rattle.std.specs.Prelude.{◌≡◌, ◌⊎◌, ℕ, ◌+◌, ◌-◌, Bool, false, ◌&&◌, ◌==◌, nat_le, nat_lt, not, length, if◌then◌else◌, List, [], ◌∷◌, Option, None, Some, Result, Ok, Err, codes}
use Rattle.std.specs.List.{find, position_from}
use Rattle.std.specs.Option.{is_some, option_and_then, option_map}
use Rattle.std.specs.Str.{is_utf8}
use Rattle.gr_text.specs.LineReading.{◌>>=◌, first_of, number_of, same, short_of}
use Rattle.gr_places.specs.Types.{Word, Global, Local, BufferLine, Placed, PlaceLine, Run, SidesFault}
use Rattle.gr_text.specs.Lines.{lines_of}
use Rattle.gr_places.specs.contracts.places.PlacedPartialEq.TheImpl as equality
use Rattle.gr_places.specs.declared.buffers.Element.{Element}
use Rattle.gr_record.specs.declared.fault.Fault.TheVariants.{Memory}
use Rattle.gr_places.specs.declared.places.Placed.TheVariants.{Event, Site}

-- ---- texts

-- the text up to the end of a line: it is not empty, and is UTF-8
unfoldable pub text_said : List ℕ → Option (List ℕ)
text_said bytes = if is_utf8 bytes && not (length bytes == 0) then Some bytes else None

abbrev pub begins_with_digit : List ℕ → Bool
begins_with_digit [] = false
begins_with_digit (b ∷ bytes) = nat_le 48 b && nat_le b 57

-- ---- the lines of a file

-- what line n and the lines after it say, or the number of the first that is out of form
abbrev pub said_next : {X : Type 0} → ℕ → Option X → Result (List X) ℕ → Result (List X) ℕ
said_next n None rest = Err n
said_next n (Some x) (Ok xs) = Ok (x ∷ xs)
said_next n (Some x) (Err k) = Err k

-- what lines say, from line n on
abbrev pub said_from : {X : Type 0} → (List ℕ → Option X) → ℕ → List (List ℕ) → Result (List X) ℕ
said_from said n [] = Ok []
said_from said n (l ∷ ls) = said_next n (said l) (said_from said (n + 1) ls)

-- why lines are refused: memory ran out, or this fault is that of the first line that is out of form
abbrev pub Refuses : {X : Type 0} → (ℕ → SidesFault) → Result X ℕ → SidesFault → Type 0
Refuses refusal meaning f = (f ≡ Run Memory) ⊎ (n : ℕ) × (f ≡ refusal n) × (meaning ≡ Err n)

-- ---- places

-- an event or a site, and its place
pub record PlaceSaid : Type 0 where
  pub of : Placed
  pub text : List ℕ

abbrev pub place_line : PlaceLine → PlaceSaid
place_line l = record { of = l.of; text = l.text.now }

-- the line of an event, by its group and the bytes after it; its place does not begin with a digit
unfoldable pub event_said : List ℕ → List ℕ → Option PlaceSaid
event_said group bytes =
    let item = first_of bytes in item.1 >>= λ b.
    let index = first_of b in
    short_of group >>= λ g. short_of item.0 >>= λ i. number_of index.0 >>= λ n. index.1 >>= λ c.
    (if begins_with_digit c then None else text_said c >>= λ t. Some (record { of = Event (record { at = record { group = g; item = i }; index = n }); text = t }))

-- the line of an event or of a site: after the site's number comes its place
unfoldable pub place_line_said : List ℕ → Option PlaceSaid
place_line_said line =
    let first = first_of line in first.1 >>= λ bytes.
    (if begins_with_digit bytes then event_said first.0 bytes
    else number_of first.0 >>= λ s. text_said bytes >>= λ t. Some (record { of = Site s; text = t }))

-- what a file of places says, or the number of its first line that is out of form
abbrev pub places_in : List ℕ → Result (List PlaceSaid) ℕ
places_in text = said_from place_line_said 1 (lines_of text)

-- the same event, or the same site
abbrev pub same_placed : Placed → Placed → Bool
same_placed p q = (equality.eq-value).it p q

-- the place of an event or a site: that of the first line that has it
abbrev pub place_of : List PlaceSaid → Placed → Option (List ℕ)
place_of lines p = option_map (λ l. l.text) (find (λ l. same_placed l.of p) lines)

-- the number of a text: how many lines come before the first line with it
abbrev pub text_number : List PlaceSaid → List ℕ → Option ℕ
text_number lines t = position_from (λ l. same l.text t) 0 lines

-- the number of the place of an event or a site
abbrev pub place_number : List PlaceSaid → Placed → Option ℕ
place_number lines p = option_and_then (text_number lines) (place_of lines p)

-- ---- buffers

-- a buffer: its first word, how many there are, and its name
pub record BufferSaid : Type 0 where
  pub first : Word
  pub words : ℕ
  pub name : List ℕ

abbrev pub buffer_line : BufferLine → BufferSaid
buffer_line l = record { first = l.first; words = l.words; name = l.name.now }

-- the word with this number, in this group's local memory or in global memory
abbrev pub word_of : Option ℕ → ℕ → Word
word_of None n = Global n
word_of (Some g) n = Local g n

-- a buffer, by the bytes of its line after the memory
unfoldable pub buffer_said : Option ℕ → List ℕ → Option BufferSaid
buffer_said group bytes =
    let first = first_of bytes in first.1 >>= λ b.
    let words = first_of b in
    number_of first.0 >>= λ f. number_of words.0 >>= λ n. words.1 >>= λ c. text_said c >>= λ t.
    Some (record { first = word_of group f; words = n; name = t })

unfoldable pub buffer_line_said : List ℕ → Option BufferSaid
buffer_line_said line =
    let space = first_of line in space.1 >>= λ bytes.
    let group = first_of bytes in
    (if same space.0 (codes "g") then buffer_said None bytes
    else if same space.0 (codes "l") then (short_of group.0 >>= λ g. group.1 >>= λ b. buffer_said (Some g) b)
    else None)

-- what a file of buffers says, or the number of its first line that is out of form
abbrev pub buffers_in : List ℕ → Result (List BufferSaid) ℕ
buffers_in text = said_from buffer_line_said 1 (lines_of text)

-- the place of a number among `words` numbers from `first` on
abbrev pub index_within : ℕ → ℕ → ℕ → Option ℕ
index_within first words number = if nat_le first number && nat_lt (number - first) words then Some (number - first) else None

-- the place of a word in a buffer, if it belongs to it
abbrev pub index_from : Word → ℕ → Word → Option ℕ
index_from (Global first) words (Global n) = index_within first words n
index_from (Local g first) words (Local h n) = if g == h then index_within first words n else None
index_from (Global first) words (Local h n) = None
index_from (Local g first) words (Global n) = None

abbrev pub index_in : BufferSaid → Word → Option ℕ
index_in b w = index_from b.first b.words w

-- a word of a buffer: the name and the place in it
pub record ElementSaid : Type 0 where
  pub name : List ℕ
  pub index : ℕ

abbrev pub element : Element → ElementSaid
element e = record { name = e.name.now; index = e.index }

-- the buffer of a word, by the first line that has the word, and the word's place in it
abbrev pub element_of : List BufferSaid → Word → Option ElementSaid
element_of lines w =
    option_and_then (λ b. option_map (λ k. record { name = b.name; index = k }) (index_in b w)) (find (λ b. is_some (index_in b w)) lines)
