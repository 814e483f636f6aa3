use Rattle.gr_model.proofs.Common.{◌≡◌, ◌<◌, ◌++◌, ◌∷◌, [], length, arith, length-map, map_push, err_from_is_err_and}
use Rattle.gr_replay.specs.Each.{inputs_of}
use Rattle.gr_replay.specs.InMemory.{flat, flats}
use Rattle.gr_replay.proofs.Apart.{all_read, input_at, input_fails, input_read}
use Rattle.gr_replay.proofs.each.read_only_streams.Goals as goal

pub returns-in_err-stream-clause-exact : goal.returns-in_err-stream-clause-exact
returns-in_err-stream-clause-exact g c =
    let p = err_from_is_err_and c.from_residual.result c.from_residual.ensures.1 in
    let lt : c.loop-input.input-index < length (inputs_of c.args.inputs.now) = omega (arith, length-map c.args.inputs.now (λ v. v.items), c.loop-input-test.true) in
    let is = input_at (λ v. v.items) c.args.inputs.now c.loop-input.input-index c.input-item.result c.loop-input-test.true c.input-item.is in
    let h = rw (c.deref.ensures.value, c.deref-in-loop-input.ensures.value) at c.in_err-stream.ensures.exact in
    rw (p.1, p.2) (input_fails (flats c.loop-input.streams.items) (inputs_of c.args.inputs.now) c.loop-input.input-index _ c.loop-input.invariant.so_far c.input-item.result.items lt is _ h)

pub loop-input-preserved : goal.loop-input-preserved
loop-input-preserved g c =
    let s = c.in_ok-stream.stream in
    let lt : c.loop-input.input-index < length (inputs_of c.args.inputs.now) = omega (arith, length-map c.args.inputs.now (λ v. v.items), c.loop-input-test.true) in
    let is = input_at (λ v. v.items) c.args.inputs.now c.loop-input.input-index c.input-item.result c.loop-input-test.true c.input-item.is in
    let h = rw (c.deref.ensures.value, c.deref-in-loop-input.ensures.value) at c.in_ok-stream.ensures.exact in
    let e : flats c.keep.new.streams.items ≡ flats c.loop-input.streams.items ++ flat s ∷ [] = rw c.in_ok-groups.ensures.kept (map_push _ c.loop-input.streams.items s) in
    let good = rw c.deref.ensures.value at c.in_ok-stream.ensures.good in
    record {
      so_far = rw e (input_read (flats c.loop-input.streams.items) (inputs_of c.args.inputs.now) c.loop-input.input-index _ c.loop-input.invariant.so_far c.input-item.result.items lt is (flat s) h);
      good = rw e (good c.loop-input.invariant.good);
      seen = c.in_ok-groups.ensures.seen;
    }

pub returns-clause-exact : goal.returns-clause-exact
returns-clause-exact g c = grind (arith, length-map, all_read, c.loop-input.invariant.so_far)
