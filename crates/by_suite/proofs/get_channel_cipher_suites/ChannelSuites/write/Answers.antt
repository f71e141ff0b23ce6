use mathlib.Core.Path.{◌≡◌, refl}
use Rattle.std.proofs.Common.{Err, rules}
use Rattle.base.proofs.written.Laws.{refusing}
use Rattle.by_suite.proofs.get_channel_cipher_suites.Laws.{part_put, part_not, room_before, channel_before, front_length}
use Rattle.by_suite.proofs.get_channel_cipher_suites.ChannelSuites.write.Goals as goal

pub returns-in_err-number : goal.returns-in_err-number
returns-in_err-number c =
    let e : c.from_residual.result ≡ Err c.in_err-number.field-0.0 = search rules in
    rw e (refusing c.in_err-number.field-0.0 c.args.out.now (rw (← c.in_err-number.ensures)))

pub returns-in_err-length : goal.returns-in_err-length
returns-in_err-length c =
    let r = c.in_err-length.field-0.0 in
    let e : c.from_residual-in_err-length.result ≡ Err r = search rules in
    rw e (refusing r c.args.out.now (rw (← c.in_ok-number.ensures, part_not c.args.self.suites c.in_err-length.ensures r refl)))

pub overflow_add-message : goal.overflow_add-message
overflow_add-message c =
    let h = (part_put c.args.self.suites c.in_ok-length.ensures c.in_ok-length.length refl).0 in
    search rules

pub slice_bounds-message-end-2 : goal.slice_bounds-message-end-2
slice_bounds-message-end-2 c = room_before 0 c.in_ok-length.length c.write.new.out (part_put c.args.self.suites c.in_ok-length.ensures c.in_ok-length.length refl).1

pub slice_bounds-place-end : goal.slice_bounds-place-end
slice_bounds-place-end c = front_length _ c.in_ok-length.length c.write.new.out (part_put c.args.self.suites c.in_ok-length.ensures c.in_ok-length.length refl).1

pub returns : goal.returns
returns c =
    rw (← c.in_ok-number.ensures, (part_put c.args.self.suites c.in_ok-length.ensures c.in_ok-length.length refl).2)
    (rw (channel_before c.in_ok-number.number c.in_ok-length.length c.write.new.out) at c.place.ensures)
