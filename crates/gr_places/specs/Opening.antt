-- Answers about a launch whose streams and side files are in files, and why there is none.
-- Source: docs/OUTPUT.md, "races" and docs/FORMATS.md, "Side files".
use Rattle.std.specs.Prelude.{◌≡◌, ◌⊎◌, ℕ, List, [], ◌∷◌, ◌++◌, map, Option, None, Some, Result, Ok, Err, IfSome, option_map}
use Rattle.gr_record.specs.Prelude.{IsOutside}
use Rattle.gr_places.specs.SideLines.{buffers_in, places_in}
use Rattle.gr_replay.specs.Each.{all_known}
use Rattle.gr_places.specs.Types.{SidesFault, Buffers, Places, Run}
use Rattle.gr_places.specs.declared.files.SideNames.{SideNames}
use Rattle.gr_places.specs.Sides.{SidesSaid}
use Rattle.gr_places.specs.Files.{AreOpened, IsOpeningFault, IsShowFault}

-- something of places and of buffers, each if there is one
pub record Pair (X : Type 0) : Type 0 where
  pub places : Option X
  pub buffers : Option X

-- the names of the side files
abbrev pub side_names : SideNames → Pair (List ℕ)
side_names n = record { places = option_map (λ s. s.now) n.places; buffers = option_map (λ s. s.now) n.buffers }

abbrev pub listed : {X : Type 0} → Option X → List X
listed None = []
listed (Some x) = x ∷ []

-- all names, in the order in which the files are opened
abbrev pub all_names : Pair (List ℕ) → List (List ℕ) → List (List ℕ)
all_names sides names = listed sides.places ++ listed sides.buffers ++ names

-- the side files and the files of the streams are open
pub record AreAllOpened {T E : Type 0} (Gives : List ℕ → Result T E → Type 0) (named : Pair (List ℕ)) (names : List (List ℕ)) (sides : Pair T) (files : List T) : Type 0 where
  pub places : AreOpened Gives (listed named.places) (listed sides.places)
  pub buffers : AreOpened Gives (listed named.buffers) (listed sides.buffers)
  pub streams : AreOpened Gives names files

-- the bytes of a side file, if they are known; no bytes if there is no file
abbrev pub known_of : {T : Type 0} → (T → Option (List ℕ)) → Option T → Option (List ℕ)
known_of remaining None = Some []
known_of remaining (Some file) = remaining file

-- the files of places and of buffers say this, if their bytes are known
pub record Say {T : Type 0} (remaining : T → Option (List ℕ)) (sides : Pair T) (said : SidesSaid) : Type 0 where
  pub places : IfSome (known_of remaining sides.places) (λ bytes. places_in bytes ≡ Ok said.places)
  pub buffers : IfSome (known_of remaining sides.buffers) (λ bytes. buffers_in bytes ≡ Ok said.buffers)

module _ {T E : Type 0} (remaining : T → Option (List ℕ)) (Gives : List ℕ → Result T E → Type 0) (named : Pair (List ℕ)) (names : List (List ℕ)) where
  -- the files are open, the side files are in form, and this holds of the bytes of the streams' files, if they are known, and of what the side files say
  pub record HoldsOfAllFiles (Holds : Option (List (List ℕ)) → SidesSaid → Type 0) : Type 0 where
    pub sides : Pair T
    pub files : List T
    pub opened : AreAllOpened Gives named names sides files
    pub said : SidesSaid
    pub say : Say remaining sides said
    pub shown : Holds (all_known (map remaining files)) said

  -- the files are open, and this holds of the side files
  pub record HoldsOfSides (Holds : Pair T → Type 0) : Type 0 where
    pub sides : Pair T
    pub files : List T
    pub opened : AreAllOpened Gives named names sides files
    pub holds : Holds sides

  -- why there is no answer: a file can't be opened, a side file can't be read, the streams are not a launch, the writer failed, or there is no
  -- memory; this line of the places is the first that is out of form; or the places are in form, and this is the first line of the buffers
  -- that is not
  abbrev pub IsSidesFault : SidesFault → Type 0
  IsSidesFault (Run f) = IsOpeningFault Gives (all_names named names) f ⊎ HoldsOfSides (λ sides. IsOutside f) ⊎ HoldsOfAllFiles (λ known said. IfSome known (λ inputs. IsShowFault inputs f))
  IsSidesFault (Places line) = HoldsOfSides (λ sides. IfSome (known_of remaining sides.places) (λ bytes. places_in bytes ≡ Err line))
  IsSidesFault (Buffers line) =
      HoldsOfSides (λ sides. IfSome (known_of remaining sides.places) (λ bytes. (said : List _) × (places_in bytes ≡ Ok said)) × IfSome (known_of remaining sides.buffers) (λ bytes. buffers_in bytes ≡ Err line))
