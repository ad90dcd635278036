-- The buffer holds the text of so many rows, so all of it is written.
use Rattle.std.proofs.Common.{rules}
use Rattle.console.proofs.PageLaws.{rows-ok, rows_written, rows-within, rows_taken}
use Rattle.console.proofs.write_rows.Goals as goal

pub unwrap-len-requires : goal.unwrap-len-requires
unwrap-len-requires g c = search (rules, rows-ok)

pub slice_bounds-write_all-end : goal.slice_bounds-write_all-end
slice_bounds-write_all-end g c = search rows-within

pub slice_bounds-write_all-end-2 : goal.slice_bounds-write_all-end-2
slice_bounds-write_all-end-2 g c = search rows_taken

pub returns : goal.returns
returns g c = search rows_written
