use Rattle.gr_model.proofs.Common.{sym, true≢false, ◌∙◌}
use Rattle.gr_order.proofs.Acquiring.{cause_behind}
use Rattle.gr_order.proofs.acquires.cause.Goals as goal

pub returns-else-has_elsewhere : goal.returns-else-has_elsewhere
returns-else-has_elsewhere g c =
    cause_behind c.args.lanes.now.streams c.args.acquire c.args.names.now c.args.word c.requires.names c.requires.word
    (λ some. true≢false (sym (c.has_absent.ensures.1 some) ∙ c.if-has_absent.false))
    (λ some. true≢false (sym (c.has_elsewhere.ensures.1 some) ∙ c.if-has_elsewhere.false))
