use Rattle.text.proofs.pieces.Page.+digits.Given as goal

-- the places that are left
abbrev pub decreases-digits : goal.decreases-digits
decreases-digits l = l.places
