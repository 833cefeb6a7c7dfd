-- `text::wide::more`: a unit that is no surrogate, a second surrogate, or a first one and what stands after it. Assumes nothing.
use Rattle.std.proofs.Common.{arith}
use borrow.Author.Tests.{le-leb, lt-leb}
use Rattle.numbers.specs.Number.{number_at}
use Rattle.numbers.proofs.NumberLaws.{bytes}
use Rattle.text.specs.Text.{units_of}
use Rattle.text.proofs.TextLaws.{wide_below, wide-above, wide-second, wide-first, wide-next}
use Rattle.text.proofs.wide.more.Goals as goal

pub returns-in-56320-to-57343-le16 : goal.returns-in-56320-to-57343-le16
returns-in-56320-to-57343-le16 c =
    let s = c.args.after.now in
    let next = number_at 2 s 0 in
    let e = c.le16.ensures in
    rw (wide-first c.args.unit (units_of s) (omega arith) (omega arith), wide-next s (bytes c.type_inv.after), le-leb 0xDC00 next (omega arith), le-leb next 0xDFFF (omega arith))

pub returns-in_default-le16 : goal.returns-in_default-le16
returns-in_default-le16 c =
    let s = c.args.after.now in
    let next = number_at 2 s 0 in
    let e = c.le16.ensures in
    rw (wide-first c.args.unit (units_of s) (omega arith) (omega arith), wide-next s (bytes c.type_inv.after), lt-leb 0xDC00 next (omega arith))

pub returns-in_default-le16-2 : goal.returns-in_default-le16-2
returns-in_default-le16-2 c =
    let s = c.args.after.now in
    let next = number_at 2 s 0 in
    let e = c.le16.ensures in
    rw (wide-first c.args.unit (units_of s) (omega arith) (omega arith), wide-next s (bytes c.type_inv.after), le-leb 0xDC00 next (omega arith), lt-leb next 0xDFFF (omega arith))

pub returns-in-56320-to-57343 : goal.returns-in-56320-to-57343
returns-in-56320-to-57343 c = wide-second c.args.unit (units_of c.args.after.now) (omega arith) (omega arith)

pub returns-in_default : goal.returns-in_default
returns-in_default c = rw (wide_below c.args.unit (units_of c.args.after.now) (omega arith))

pub returns-in_default-2 : goal.returns-in_default-2
returns-in_default-2 c = rw (wide-above c.args.unit (units_of c.args.after.now) (omega arith) (omega arith))
