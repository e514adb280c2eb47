use Rattle.spl_values.proofs.CodeLaws.{shifted}
use Rattle.spl_values.proofs.values.encode.Goals as goal

pub returns-in-Text-Text : goal.returns-in-Text-Text
returns-in-Text-Text c =
    let typed = rw c.in-Text-Text.is-0 at c.requires.typed in
    let fits = rw (c.in-Text-Text.is-0, c.in-Text-Text.is-1) at c.requires.fits in
    rw (c.in-Text-Text.is-0, c.in-Text-Text.is-1) (shifted c.in-Text-Text.bytes c.in-Text-Text.kept typed fits)
