-- The kinds of lines, as the code names them.
use Rattle.std.specs.Prelude.{ℕ}
use Rattle.lines.specs.declared.LineKind.{LineKind}
use Rattle.lines.specs.declared.LineKind.TheVariants.{WayOut, Clash, Last}
use Rattle.lines.specs.Lines.{way_out_kind, clash_kind, last_kind}

-- a kind's byte
abbrev pub byte_of_line_kind : LineKind → ℕ
byte_of_line_kind WayOut = way_out_kind
byte_of_line_kind Clash = clash_kind
byte_of_line_kind Last = last_kind
