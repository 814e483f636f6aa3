use Rattle.gr_model.proofs.Common.{rules}
use Rattle.gr_shadow.proofs.KeepsLemmas.{Keeps-trans, Keeps-permutation, Keeps-deduped, taking}
use Rattle.gr_shadow.proofs.touches.compact.Goals as goal

pub returns : goal.returns
returns g c =
    Keeps-trans _ _ _ (Keeps-deduped _ (λ f x k b t x' k' h. taking x k b x' k' (search rules) (search rules) (search rules)) _ _ _ c.dedup_by.ensures.filtered) (Keeps-permutation _ _ c.sort_unstable_by_key.ensures.permutation)
