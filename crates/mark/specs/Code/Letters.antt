-- The letters in the mark buffer (document 01: "K (kept) if no set has it, L (lost) if every set has it, O (open) otherwise").
use Rattle.std.specs.Prelude.{◌≡◌, refl, ℕ}
use Rattle.sets.specs.Marks.{kept, lost, open'}
use Rattle.mark.specs.declared.Letter.{Letter}
use Rattle.mark.specs.declared.Letter.TheVariants.{Kept, Lost, Open}

abbrev pub letter_of : Letter → ℕ
letter_of Kept = kept
letter_of Lost = lost
letter_of Open = open'

-- K, L and O in ASCII
example_letter_of : (letter_of Kept ≡ 75) × (letter_of Lost ≡ 76) × (letter_of Open ≡ 79)
example_letter_of = (refl, refl, refl)
