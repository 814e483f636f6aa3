-- What is within lesser limits is within greater ones.
use Rattle.gr_model.proofs.Common.{◌≤◌, ℕ, List, arith}
use Rattle.gr_model.specs.Types.{Name, MOST_GROUPS, MOST_ITEMS_OF_A_GROUP}
use Rattle.gr_model.specs.Prelude.{AreNames, AreNamesWithin}

pub names_within : (groups items : ℕ) → groups ≤ MOST_GROUPS → items ≤ MOST_ITEMS_OF_A_GROUP → (names : List Name) → AreNamesWithin groups items names → AreNames names
names_within groups items few small names are = grind arith
