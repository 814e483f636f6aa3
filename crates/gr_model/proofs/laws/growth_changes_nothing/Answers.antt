use Rattle.gr_model.proofs.Descent.{stage_up}
use Rattle.gr_model.proofs.GrowthLaws.{waits_grows, waits_shrink, stage_grows, stage_shrinks, before_grows, before_shrinks}
use Rattle.gr_model.proofs.CountLaws.{count_stays}
use Rattle.gr_model.proofs.laws.growth_changes_nothing.Goals as goal

pub returns : goal.returns
returns c = record {
  waits = λ s t e d grows g. let up = stage_up s g.0 e g.1 in (waits_grows s t grows e d up.0, waits_shrink s t grows g.0 e up d);
  stages = λ s t e n grows g. (stage_grows s t grows n e, stage_shrinks s t grows g.0 e g.1 n);
  order = λ s t m e f grows g. (λ b. before_grows s t grows m e f b g.0 g.1, λ b. before_shrinks s t grows m e f b g.0 g.1);
  counts = λ s t m f j n grows g. count_stays s t grows m f g.0 g.1 j n;
}
