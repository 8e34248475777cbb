use Rattle.program_file.proofs.program_file.resources_of.Goals as goal

-- the table of the resources is refused
pub returns-in-Some-clause-refused : goal.returns-in-Some-clause-refused
returns-in-Some-clause-refused c = rw c.in-Some.is c.values_of.ensures.refused
