use Rattle.gr_model.proofs.Common.{arith}
use Rattle.gr_model.specs.Prelude.{IsAt}
use Rattle.gr_model.proofs.Descent.{below_by_pair, below_before, lawful_descends}
use Rattle.gr_model.proofs.laws.order_goes_forwards.Goals as goal

pub returns : goal.returns
returns c = record {
  pairs = λ s order m e f p q lawful at_e at_f pair.
      grind (arith, below_by_pair s (IsAt order) (lawful_descends s order lawful) m q e f at_f pair, lawful.once);
  order = λ s order m e f p q lawful at_e at_f before.
      grind (arith, below_before s (IsAt order) (lawful_descends s order lawful) m e f before q at_f, lawful.once);
  within = λ s order m e f lawful in_f before.
      let there = below_before s (IsAt order) (lawful_descends s order lawful) m e f before in_f.0 in_f.1 in (there.0, there.2);
}
