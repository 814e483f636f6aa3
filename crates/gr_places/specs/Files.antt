-- Files that are opened by their names, and what holds of their bytes.
-- Source: docs/OUTPUT.md, "explain".
use Rattle.std.specs.Prelude.{◌≡◌, ◌⊎◌, ℕ, List, ◌∷◌, ◌++◌, map, Option, Result, Ok, Err}
use Rattle.std.specs.List.{AllZip}
use Rattle.gr_record.specs.declared.fault.Fault.{Fault}
use Rattle.gr_record.specs.declared.fault.Fault.TheVariants as faults
use Rattle.gr_replay.specs.Each.{IsEachFault, all_known}

-- why there is no answer about inputs: they are not a launch, or else the writer failed
abbrev pub IsShowFault : List (List ℕ) → Fault → Type 0
IsShowFault inputs f = IsEachFault inputs f ⊎ (f ≡ faults.Write)

module _ {T E : Type 0} (Gives : List ℕ → Result T E → Type 0) where
  -- the files are those of the names, in their order
  abbrev pub AreOpened : List (List ℕ) → List T → Type 0
  AreOpened names files = AllZip (λ name file. Gives name (Ok file)) names files

  -- the first name whose file can't be opened: all files of the names before it are open
  pub record IsFirstUnopened (names : List (List ℕ)) : Type 0 where
    pub before : List (List ℕ)
    pub name : List ℕ
    pub after : List (List ℕ)
    pub split : names ≡ before ++ name ∷ after
    pub files : List T
    pub opened : AreOpened before files
    pub error : E
    pub refused : Gives name (Err error)

  -- a file can't be opened, or there is no memory
  abbrev pub IsOpeningFault : List (List ℕ) → Fault → Type 0
  IsOpeningFault names f = (f ≡ faults.Memory) ⊎ ((f ≡ faults.Read) × IsFirstUnopened names)

module _ {T E : Type 0} (remaining : T → Option (List ℕ)) (Gives : List ℕ → Result T E → Type 0) (names : List (List ℕ)) where
  -- the files of these names are open, and this holds of their bytes, if the bytes of all are known
  abbrev pub HoldsOfFiles : (Option (List (List ℕ)) → Type 0) → Type 0
  HoldsOfFiles Holds = (files : List T) × AreOpened Gives names files × Holds (all_known (map remaining files))
