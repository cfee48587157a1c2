-- Why edges aren't split or joined: the first cause of a table. This project's own.
use Rattle.std.specs.Prelude.{◌≡◌, ℕ, List, [], ◌∷◌, Option, None, Some}
use Rattle.edit_sets.specs.declared.fault.FormRefusal.{FormRefusal}
use Rattle.edit_sets.specs.declared.fault.FormRefusal.TheVariants.{Fault as FormFault, NoMemory as FormNoMemory}
use Rattle.topo_ops.specs.declared.refusal.OpRefusal.{OpRefusal}
use Rattle.topo_ops.specs.declared.refusal.OpRefusal.TheVariants.{NoEdge, BadPlace, NameTaken, NotAChain, NodeUsed, AttrsDiffer, NotPaired, VersionEnd, Form}
use Rattle.topo_ops.specs.declared.refusal.OpRefusal.TheVariants.{NoMemory}

-- the first that there is
abbrev pub first_of : {X : Type 0} → List (Option X) → Option X
first_of [] = None
first_of (Some x ∷ rest) = Some x
first_of (None ∷ rest) = first_of rest

-- a refusal is the one that a rule tells, or means out of memory, which may come in place of any answer
abbrev pub IsRefusal : Option OpRefusal → OpRefusal → Type 0
IsRefusal rule (NoEdge id) = rule ≡ Some (NoEdge id)
IsRefusal rule (BadPlace last) = rule ≡ Some (BadPlace last)
IsRefusal rule (NameTaken name) = rule ≡ Some (NameTaken name)
IsRefusal rule NotAChain = rule ≡ Some NotAChain
IsRefusal rule (NodeUsed from place) = rule ≡ Some (NodeUsed from place)
IsRefusal rule AttrsDiffer = rule ≡ Some AttrsDiffer
IsRefusal rule (NotPaired id place) = rule ≡ Some (NotPaired id place)
IsRefusal rule (VersionEnd name) = rule ≡ Some (VersionEnd name)
IsRefusal rule (Form fault) = rule ≡ Some (Form fault)
IsRefusal rule NoMemory = Unit {0}

-- the numbers of the causes
abbrev pub number_of : OpRefusal → ℕ
number_of (NoEdge id) = 1
number_of (BadPlace last) = 2
number_of (NameTaken name) = 3
number_of NotAChain = 6
number_of (NodeUsed from place) = 7
number_of AttrsDiffer = 8
number_of (NotPaired id place) = 10
number_of (VersionEnd name) = 4
number_of (Form fault) = 5
number_of NoMemory = 9

-- a fault of the edits' form as a refusal
abbrev pub refusal_of_form : FormRefusal → OpRefusal
refusal_of_form (FormFault fault) = Form fault
refusal_of_form FormNoMemory = NoMemory
