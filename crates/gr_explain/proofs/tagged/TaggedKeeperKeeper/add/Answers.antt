use Rattle.gr_model.proofs.Common.{◌∷◌, [], on_ok_weaker}
use Rattle.gr_explain.proofs.tagged.TaggedKeeperKeeper.add.Goals as goal

pub returns : goal.returns
returns g c = on_ok_weaker c.add_access.result (λ added accesses stand. (c.in_ok-add.ensures accesses stand.0, added (c.args.self.now.word ∷ []) accesses stand.1)) c.add_access.ensures
