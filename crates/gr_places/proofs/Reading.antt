-- What the lines of a file say, as a loop reads them, and how something is found in them.
use Rattle.gr_model.proofs.Common.{◌≡◌, ℕ, Bool, List, [], ◌∷◌, ◌++◌, Option, Result, Ok, Err, refl, ap, map, arith, find, is_some, option_and_then, option_map, IsUtf8, append-nil, true}
use Rattle.std.specs.Str.{is_utf8}
use Rattle.std.proofs.lemmas.Str.{IsUtf8-from_is_utf8, is_utf8-from_IsUtf8}
use Rattle.gr_places.specs.Types.{Word, BufferLine}
use Rattle.gr_places.specs.SideLines.{BufferSaid, ElementSaid, buffer_line, element_of, index_in}

-- what lines say, after what the lines before them said
abbrev pub joined : {X : Type 0} → List X → Result (List X) ℕ → Result (List X) ℕ
joined done (Ok xs) = Ok (done ++ xs)
joined done (Err f) = Err f

pub joined_all : {X : Type 0} (done : List X) → joined done (Ok []) ≡ Ok done
joined_all done = ap (λ (ys : List _). Ok ys) (append-nil done)

-- the first that passes a test, in a mapped list
pub find_viewed : {X Y : Type 0} (view : X → Y) (test : Y → Bool) (xs : List X) → find test (map view xs) ≡ option_map view (find (λ x. test (view x)) xs)
find_viewed view test [] = refl
find_viewed view test (x ∷ xs) = grind (arith, find_viewed view test xs)

-- ---- the text at the end of a line

pub utf8_told : (bytes : List ℕ) → (is_utf8 bytes ≡ is_utf8 bytes) × (is_utf8 bytes ≡ true → IsUtf8 bytes) × (IsUtf8 bytes → is_utf8 bytes ≡ true)
utf8_told bytes = (refl, IsUtf8-from_is_utf8 bytes, is_utf8-from_IsUtf8 bytes)

-- ---- what is found in lines

-- the element of a word in a line
abbrev pub with_index : Word → BufferSaid → Option ElementSaid
with_index w b = option_map (λ (k : ℕ). record { name = b.name; index = k }) (index_in b w)

abbrev pub made : Word → BufferLine → Option ElementSaid
made w l = with_index w (buffer_line l)

pub element_found : (lines : List BufferLine) (w : Word) (o : Option BufferLine) → o ≡ find (λ (l : BufferLine). is_some (index_in (buffer_line l) w)) lines → option_and_then (made w) o ≡ element_of (map buffer_line lines) w
element_found lines w o is = grind (arith, find_viewed buffer_line (λ (b : BufferSaid). is_some (index_in b w)) lines)
