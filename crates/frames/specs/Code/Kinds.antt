-- The kinds of frames, as the code names them.
use Rattle.std.specs.Prelude.{ℕ}
use Rattle.frames.specs.declared.kind.Kind.{Kind}
use Rattle.frames.specs.declared.kind.Kind.TheVariants.{Header, Hard, Soft, End}
use Rattle.frames.specs.Frames.{header_kind, hard_kind, soft_kind, end_kind}

-- a kind's byte
abbrev pub byte_of_kind : Kind → ℕ
byte_of_kind Header = header_kind
byte_of_kind Hard = hard_kind
byte_of_kind Soft = soft_kind
byte_of_kind End = end_kind
