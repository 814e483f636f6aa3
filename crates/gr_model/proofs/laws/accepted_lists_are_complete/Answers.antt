use Rattle.gr_model.proofs.GroupLaws.{part_of_shape}
use Rattle.gr_model.proofs.laws.accepted_lists_are_complete.Goals as goal

pub returns : goal.returns
returns c s = (
  λ a. (
    a.shape,
    record { shape = part_of_shape s.sizes a.shape; count = a.count; each = λ g there. let list = a.each g there in record { few = list.few; good = list.good } },
    λ g there. (a.each g there).ended,
  ),
  λ h. record { shape = h.0; count = h.1.count; each = λ g there. let list = h.1.each g there in record { few = list.few; good = list.good; ended = h.2 g there } },
)
