-- The rules of the model by their names here, and what each prints.
use Rattle.std.specs.Prelude.{ℕ, List, codes}
use Rattle.model.specs.Rules as model
use Rattle.op_grammar.specs.declared.rule.Rule.{Rule}
use Rattle.op_grammar.specs.declared.rule.Rule.TheVariants as r

-- the rule of this name
abbrev pub rule_of : Rule → model.Rule
rule_of r.F1 = model.F1
rule_of r.F4 = model.F4
rule_of r.F5 = model.F5
rule_of r.F6 = model.F6
rule_of r.B1 = model.B1
rule_of r.B2 = model.B2
rule_of r.B3 = model.B3
rule_of r.B4 = model.B4
rule_of r.B5 = model.B5
rule_of r.B6 = model.B6
rule_of r.G1 = model.G1
rule_of r.G2 = model.G2
rule_of r.G3 = model.G3
rule_of r.G4 = model.G4
rule_of r.G5 = model.G5
rule_of r.G6 = model.G6
rule_of r.G7 = model.G7

-- its name, as it is printed
abbrev pub rule_name : Rule → List ℕ
rule_name r.F1 = codes "F1"
rule_name r.F4 = codes "F4"
rule_name r.F5 = codes "F5"
rule_name r.F6 = codes "F6"
rule_name r.B1 = codes "B1"
rule_name r.B2 = codes "B2"
rule_name r.B3 = codes "B3"
rule_name r.B4 = codes "B4"
rule_name r.B5 = codes "B5"
rule_name r.B6 = codes "B6"
rule_name r.G1 = codes "G1"
rule_name r.G2 = codes "G2"
rule_name r.G3 = codes "G3"
rule_name r.G4 = codes "G4"
rule_name r.G5 = codes "G5"
rule_name r.G6 = codes "G6"
rule_name r.G7 = codes "G7"
