use Rattle.gr_model.proofs.Common.{◌/◌, ◌+◌, ◌-◌, ◌∙◌, arith, sym, true≢false}
use Rattle.gr_races.proofs.PartingLemmas.{behind_before, number_below}
use Rattle.gr_races.proofs.parting.barriers_above.Goals as goal

pub loop-least-init : goal.loop-least-init
loop-least-init g c = record {
  behind = λ k below. absurd (omega (arith, below));
  beyond = λ k from is. let below = number_below c.args.lanes.now.streams c.args.event k is in omega (arith, from, below);
  order = omega arith;
}

pub is_behind-requires : goal.is_behind-requires
is_behind-requires g c p at = omega (arith, c.requires.whole.forgotten c.args.event.at.group)

pub loop-least-preserved-then-is_behind : goal.loop-least-preserved-then-is_behind
loop-least-preserved-then-is_behind g c =
    let middle = c.loop-least.least + (c.loop-least.most - c.loop-least.least) / 2 in record {
      behind = λ k below. behind_before c.args.lanes.now.streams c.args.event k middle (omega (arith, below)) (c.is_behind.ensures.0 c.if-is_behind.true);
      beyond = c.loop-least.invariant.beyond;
      order = omega (arith, c.loop-least-test.true);
    }

pub loop-least-preserved : goal.loop-least-preserved
loop-least-preserved g c =
    let middle = c.loop-least.least + (c.loop-least.most - c.loop-least.least) / 2 in record {
      behind = c.loop-least.invariant.behind;
      beyond = λ k from is. true≢false (sym (c.is_behind.ensures.1 (behind_before c.args.lanes.now.streams c.args.event middle k from is)) ∙ c.if-is_behind.false);
      order = omega arith;
    }

pub returns : goal.returns
returns g c k = grind (arith, c.loop-least.invariant.behind k, c.loop-least.invariant.beyond k)
