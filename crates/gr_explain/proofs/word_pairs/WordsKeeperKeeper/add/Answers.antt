use Rattle.gr_model.proofs.Common.{on_ok_weaker}
use Rattle.gr_explain.proofs.word_pairs.WordsKeeperKeeper.add.Goals as goal

pub returns : goal.returns
returns g c = on_ok_weaker c.add_access.result (λ added. added c.args.self.now.words.now) c.add_access.ensures
