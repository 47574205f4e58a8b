use Rattle.std.proofs.Common.{◌≡◌, ℕ, List, ◌++◌, codes, refl, append_assoc}
use Rattle.std.proofs.lemmas.Grind.{put_six}
use Rattle.upon_types.proofs.error.pretty.PrettyDisplay.fmt.Goals as goal

-- the six writes, and the text that they make
joined : (kind name reason number column line margin marks : List ℕ) →
    (kind ++ codes "\n\n")
    ++ ((codes " " ++ (margin ++ (codes "--> " ++ (name ++ (codes ":" ++ (number ++ (codes ":" ++ (column ++ codes "\n"))))))))
    ++ ((codes " " ++ (margin ++ codes " |\n"))
    ++ ((codes " " ++ (number ++ (codes " | " ++ (line ++ codes "\n"))))
    ++ ((codes " " ++ (margin ++ (codes " | " ++ (marks ++ codes "\n"))))
    ++ (codes " " ++ (margin ++ (codes " |\n " ++ (margin ++ (codes " = reason: " ++ (reason ++ codes "\n"))))))))))
    ≡ kind ++ codes "\n\n"
    ++ codes " " ++ margin ++ codes "--> " ++ name ++ codes ":" ++ number ++ codes ":" ++ column ++ codes "\n"
    ++ codes " " ++ margin ++ codes " |\n"
    ++ codes " " ++ number ++ codes " | " ++ line ++ codes "\n"
    ++ codes " " ++ margin ++ codes " | " ++ marks ++ codes "\n"
    ++ codes " " ++ margin ++ codes " |\n"
    ++ codes " " ++ margin ++ codes " = reason: " ++ reason ++ codes "\n"
joined kind name reason number column line margin marks = simp append_assoc

pub returns-clause-writes : goal.returns-clause-writes
returns-clause-writes g c = λ plain ok.
    let one = c.in_ok-write.ensures.writes plain refl in
    let two = c.in_ok-write-2.ensures.writes one.plain refl in
    let three = c.in_ok-write-3.ensures.writes two.plain refl in
    let four = c.in_ok-write-4.ensures.writes three.plain refl in
    let five = c.in_ok-write-5.ensures.writes four.plain refl in
    put_six _ _ _ _ _ _ _ _ _ _ _ _ _ _ _ one two three four five (c.write-6.ensures.writes five.plain ok) (joined _ _ _ _ _ _ _ _)
