use Rattle.gr_model.proofs.Common.{arith}
use Rattle.gr_shadow.proofs.KeepsLemmas.{Contains-append}
use Rattle.gr_shadow.proofs.merge.merge.Goals as goal

pub returns : goal.returns
returns g c = record {
  ascending = c.order_words.ensures.ascending;
  exact = λ w. grind (arith, c.order_words.ensures.exact w, Contains-append c.args.first.now c.args.second.now w);
}
