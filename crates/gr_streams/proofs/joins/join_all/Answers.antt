use Rattle.gr_model.proofs.Common.{◌≡◌, ◌∙◌, ◌++◌, List, Some, append_assoc, ap, arith, length, refl, rules, sym, into_iter_items, length-append, length-map, nil_from_length}
use Rattle.std.proofs.lemmas.Slice.Zip.{AllZip-long}
use Rattle.gr_route.specs.Batches.{all_of}
use Rattle.gr_route.proofs.BatchLemmas.{all_of_push}
use Rattle.gr_streams.specs.Records.{lists_behind}
use Rattle.gr_streams.specs.Sources.{Begun, IsEndOf}
use Rattle.gr_streams.proofs.JoinLemmas.{all_joined}
use Rattle.gr_streams.proofs.joins.join_all.Goals as goal

pub loop-thread-init : goal.loop-thread-init
unfolding lists_behind
loop-thread-init g c =
    let items : into_iter_items c.into_iter-thread-iterator.result ≡ c.args.threads.items = search rules in
    rw c.requires.none (record {
      left = ap (λ (l : List (List _)). all_of l) items;
      joined = record {
        receipts = record { groups = refl; queues = refl };
        write = tt;
        tells = λ inputs read. rw (nil_from_length inputs (omega (arith, ap length read.1, length-map inputs (λ l. Some l)))) refl;
      };
      room = omega (arith, c.requires.empty, c.requires.fits, ap (λ l. length (all_of l)) items);
    })

pub keep_each-fault-requires : goal.keep_each-fault-requires
keep_each-fault-requires g c =
    let room = rw c.in-Some.ensures.steps.0 at c.loop-thread.invariant.room in
    omega (arith, room, length-append {A = Begun}, AllZip-long (λ b e. IsEndOf b e.receipt e.fault) c.in-Some.thread c.join.result.items c.join.ensures, c.join.result.ok.0)

pub loop-thread-preserved : goal.loop-thread-preserved
loop-thread-preserved g c =
    let inv = c.loop-thread.invariant in
    let t = c.in-Some.thread in
    let rest = into_iter_items c.next.new.self in
    let items = c.in-Some.ensures.steps.0 in
    let before = all_of c.loop-thread.yielded in
    let yielded = all_of_push c.loop-thread.yielded t in
    let kept = c.keep_each-fault.ensures in
    record {
      left = ap (λ l. l ++ all_of rest) yielded ∙ (append_assoc before t (all_of rest) ∙ rw items at inv.left);
      joined = rw yielded (kept.left before t c.join.ensures inv.joined);
      room = omega (arith, rw items at inv.room, length-append {A = Begun}, kept.len, kept.capacity, AllZip-long (λ b e. IsEndOf b e.receipt e.fault) t c.join.result.items c.join.ensures, c.join.result.ok.0);
    }

pub returns : goal.returns
returns g c =
    let left = c.loop-thread.thread-iterator in
    let all = all_joined (all_of c.loop-thread.yielded) (into_iter_items left) (all_of c.args.threads.items) c.loop-thread.invariant.left (sym left.rest.ok.0 ∙ c.in-None.ensures.steps.0) in
    rw (← all) c.loop-thread.invariant.joined
