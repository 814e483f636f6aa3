use Rattle.gr_model.proofs.Common.{append_assoc, arith, map, subst, All, into_iter_items, map_push, All-head, All-tail}
use Rattle.std.proofs.lemmas.Slice.Zip.{all_zipped_more}
use Rattle.gr_streams.specs.Sources.{IsEndOf, IsUnread, begun_of}
use Rattle.gr_streams.proofs.reading.read_each.Goals as goal

pub read_on-requires : goal.read_on-requires
read_on-requires g c = All-head IsUnread c.in-Some.stream (into_iter_items c.next.new.self) (subst (All IsUnread) c.in-Some.ensures.steps.0 c.loop-stream.invariant.unread)

pub loop-stream-preserved : goal.loop-stream-preserved
loop-stream-preserved g c =
    let inv = c.loop-stream.invariant in
    let rem = g.T.Read.remaining in
    let u = c.in-Some.stream in
    let rest = into_iter_items c.next.new.self in
    let items = c.in-Some.ensures.steps.0 in
    let yielded = c.loop-stream.yielded in
    let read = c.read_on.ensures in
    record {
      left = rw (append_assoc, ← items) inv.left;
      unread = All-tail IsUnread u rest (subst (All IsUnread) items inv.unread);
      ends = rw (c.push_reserved.ensures.items, map_push (begun_of rem) yielded u)
          (all_zipped_more (λ b e. IsEndOf b e.receipt e.fault) (map (begun_of rem) yielded) c.loop-stream.ended.items (begun_of rem u) c.read_on.result inv.ends
          (record { group = read.group; queue = read.queue; write = read.write; tells = read.tells }));
      room = omega (arith, inv.room, c.in-Some.ensures.steps.1, c.push_reserved.ensures.len, c.push_reserved.ensures.capacity);
    }
