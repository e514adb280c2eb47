-- The two texts in frames and notes.
use Rattle.std.specs.Prelude.{ℕ, Bool, ◌||◌, nat_lt, List, Option, Some, None, Result, Ok, Err, if◌then◌else◌}
use Rattle.std.specs.Str.{bytes_eq}
use Rattle.spl_values.specs.Shapes.{ShapeParts}
use Rattle.spl_values.specs.ShapeTexts.{shape_text, shape_of}
use Rattle.spl_values.specs.declared.shape_reader.ShapeFault.{ShapeFault}

-- a byte that no query's text has: all but the printable ones of ASCII
abbrev pub is_bad : ℕ → Bool
is_bad b = nat_lt b 32 || nat_lt 126 b

-- the shape that was read from a text, if the text is its canonical one
abbrev pub if_canonical : List ℕ → Result ShapeParts ShapeFault → Option ShapeParts
if_canonical text (Ok s) = if bytes_eq text (shape_text s) then Some s else None
if_canonical text (Err e) = None

-- the shape whose canonical text this is
unfoldable pub canonical_shape : List ℕ → Option ShapeParts
canonical_shape text = if_canonical text (shape_of text)
