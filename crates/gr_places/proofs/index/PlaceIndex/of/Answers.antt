use Rattle.gr_model.proofs.Common.{◌≡◌, ◌<◌, ◌+◌, ◌-◌, length, arith}
use Rattle.gr_text.specs.LineReading.{same}
use Rattle.gr_places.proofs.IndexLemmas.{numbers_more, texts_more}
use Rattle.gr_places.proofs.index.PlaceIndex.of.Goals as goal

pub loop-left-preserved : goal.loop-left-preserved
unfolding same
loop-left-preserved g c =
    let before = c.loop-left.invariant in
    let lt : c.loop-left.left - 1 < length c.args.lines.now = omega (arith, before.within, c.loop-left-test.true) in
    let next : c.loop-left.left - 1 + 1 ≡ c.loop-left.left = omega (arith, c.loop-left-test.true) in
    record {
      within = omega (arith, lt);
      texts = texts_more c.args.lines.now (c.loop-left.left - 1) c.loop-left.left _ lt next c.loop-left.texts.entries c.insert.new.self.entries c.in_ok-insert.ensures.updates.0 before.texts;
      numbers = numbers_more c.args.lines.now (c.loop-left.left - 1) c.loop-left.left _ lt next c.loop-left.numbers.entries c.insert-in-loop-left.new.self.entries c.in_ok-insert-2.ensures.updates.0 before.numbers;
    }
