-- Whether a word is racy, by its least racing pair.
use Rattle.gr_model.proofs.Common.{◌↔◌, IsTrue, Option, None, Some, is_some, refl, sym, true≢false}
use Rattle.gr_model.specs.declared.event.Word.{Word}
use Rattle.gr_model.specs.Prelude.{Pair, Streams}
use Rattle.gr_timeline.specs.Racy.{IsRacyIn}
use Rattle.gr_command.specs.Shown.{IsExplanation}

pub race_said : (s : Streams) (w : Word) (pair : Option Pair) → IsExplanation s w pair → IsTrue (is_some pair) ↔ IsRacyIn w s
race_said s w None none = (λ no. absurd (true≢false (sym no)), λ racy. absurd (none racy))
race_said s w (Some p) least = (λ yes. (p.0, p.1, least.0.first, least.0.second, least.0.race), λ racy. refl)
