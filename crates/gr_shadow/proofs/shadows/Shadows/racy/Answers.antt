use Rattle.gr_model.proofs.Common.{arith}
use Rattle.gr_shadow.proofs.MapLemmas.{answered_words_told}
use Rattle.gr_shadow.proofs.shadows.Shadows.racy.Goals as goal

pub returns : goal.returns
returns g c accesses stands = record {
  ascending = c.order_words.ensures.ascending;
  exact = λ w. grind (arith, rw c.in_ok-words.ensures.words at (c.order_words.ensures.exact w), answered_words_told c.args.self.now c.in_ok-words.ensures.distinct w, stands.answered w);
}
