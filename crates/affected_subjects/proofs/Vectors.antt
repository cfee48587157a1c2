-- Nodes and edges by name, in a cell and after edits.
use Rattle.std.proofs.Common.{◌≡◌, ◌||◌, Bool, true, false, List, Option, None, Some, cond, is_some, refl, sym, ap, ◌∙◌}
use Rattle.std.specs.Prelude.{option_and_then}
use Rattle.std.specs.Borrow.{Bor}
use Rattle.std.specs.Option.{option_copied}
use Rattle.s57_types.specs.declared.name.Kind.TheVariants.{Vc}
use Rattle.s57_types.specs.declared.name.RecName.{RecName}
use Rattle.s57_types.specs.declared.record.Rec.{Rec}
use Rattle.s57_types.specs.declared.record.Rec.TheVariants.{V, F, H}
use Rattle.s57_types.specs.declared.record.Vector.{Vector}
use Rattle.s57_types.specs.declared.cell.Cell.{Cell}
use Rattle.s57_types.specs.declared.head.Head.{Head as CellHead}
use Rattle.cell_spec.specs.declared.edit.Edit.{Edit}
use Rattle.cell_spec.specs.declared.edit.Edit.TheVariants.{Add, Set, Del, Head}
use Rattle.cell_spec.specs.Edits.{apply_edits, edit_of, left_by}
use Rattle.cell_spec.specs.Lookup.{head_and_records, is_named, lookup_record, name_of}
use Rattle.cell_spec.specs.Names.{is_of_kind}
use Rattle.cell_spec.proofs.Orders.{one_when_same}
use Rattle.rule_spec.specs.Records.{edge_named, is_chain_part, is_edge_name, node_named, vector_named, vector_of as vector_passing}
use Rattle.answer_laws.specs.EditedAnswers.{FindTheirRecords}
use Rattle.answer_laws.proofs.Among.{found}
use Rattle.edit_answers.specs.Named.{EditsLeaveTheirRecords, answered_by}
use Rattle.record_store.specs.Stores.{course_in, vector_of}
use Rattle.affected_subjects.specs.EditedCells.{is_chain_name}

-- ---- a node or an edge is the vector record of its name
either : (b : Bool) (o : Option Vector) → o ≡ cond b o o
either true o = refl
either false o = refl

passing_by : (test : RecName → Bool) (n : RecName) (o : Option Rec) → ((r : Rec) → o ≡ Some r → n ≡ name_of r)
    → option_and_then (vector_passing test) o ≡ cond (test n) (vector_of o) None
passing_by test n None own = either (test n) None
passing_by test n (Some (F f)) own = either (test n) None
passing_by test n (Some (H h)) own = either (test n) None
passing_by test n (Some (V v)) own = ap (λ m. cond (test m) (Some v) None) (sym (own (V v) refl))

own_name : (c : Cell) (n : RecName) (r : Rec) → lookup_record c n ≡ Some r → n ≡ name_of r
own_name c n r is = one_when_same n (name_of r) (found (is_named n) (head_and_records c) r is).passes

passing_is : (test : RecName → Bool) (c : Cell) (n : RecName) → vector_named test c n ≡ cond (test n) (vector_of (lookup_record c n)) None
passing_is test c n = passing_by test n (lookup_record c n) (own_name c n)

first_by : (first second : Bool) (o : Option Vector) → cond first o None ≡ cond first (cond (first || second) o None) None
first_by true second o = refl
first_by false second o = refl

second_by : (first second : Bool) (o : Option Vector) → cond second o None ≡ cond second (cond (first || second) o None) None
second_by true true o = refl
second_by false true o = refl
second_by true false o = refl
second_by false false o = refl

pub node_is : (c : Cell) (n : RecName) → node_named c n ≡ cond (is_of_kind Vc n) (course_in c n) None
node_is c n = passing_is (is_of_kind Vc) c n ∙ first_by (is_of_kind Vc n) (is_edge_name n) (vector_of (lookup_record c n))

pub edge_is : (c : Cell) (n : RecName) → edge_named c n ≡ cond (is_edge_name n) (course_in c n) None
edge_is c n = passing_is is_edge_name c n ∙ second_by (is_of_kind Vc n) (is_edge_name n) (vector_of (lookup_record c n))

pub copied_some : (o : Option (Bor Vector)) → is_some o ≡ is_some (option_copied o)
copied_some None = refl
copied_some (Some v) = refl

-- by the kind of the name
pub there_is : (named : Bool) → (o : Option Vector) → named ≡ true → o ≡ cond named o None
there_is named o e = sym (ap (λ b. cond b o None) e)

pub none_there : (named : Bool) → (o : Option Vector) → named ≡ false → None ≡ cond named o None
none_there named o e = sym (ap (λ b. cond b o None) e)

part_by : (node edge : Bool) (o : Option Vector) → (is_some (cond node o None) || is_some (cond edge o None)) ≡ is_some (cond (node || edge) o None)
part_by false false o = refl
part_by false true o = refl
part_by true false None = refl
part_by true false (Some v) = refl
part_by true true None = refl
part_by true true (Some v) = refl

pub part_is : (c : Cell) (n : RecName) → is_chain_part c n ≡ is_some (course_in c n)
part_is c n =
    (λ i. is_some (passing_is (is_of_kind Vc) c n i) || is_some (passing_is is_edge_name c n i))
    ∙ part_by (is_of_kind Vc n) (is_edge_name n) (vector_of (lookup_record c n))

-- ---- after edits
left_is : (h : CellHead) (old : Option Rec) (e : Edit) → vector_of (left_by e) ≡ vector_of (answered_by h old (Some e))
left_is h old (Add r) = refl
left_is h old (Set r) = refl
left_is h old (Del n) = refl
left_is h old (Head e) = refl

module _ (leave : EditsLeaveTheirRecords) (edits : List Edit) (c : Cell) (fit : FindTheirRecords edits c) (n : RecName) where
  -- under an edited name is what its edit leaves
  pub edited_course : (e : Edit) → Some e ≡ edit_of n edits → cond (is_chain_name n) (vector_of (left_by e)) None ≡ course_in (apply_edits edits c) n
  edited_course e is =
      ap (λ o. cond (is_chain_name n) o None)
      (left_is c.head (lookup_record c n) e
      ∙ ap (λ o. vector_of (answered_by c.head (lookup_record c n) o)) is
      ∙ ap vector_of (sym ((leave edits c fit).answered n)))

  -- under another name is what was there
  pub kept_course : None ≡ edit_of n edits → course_in c n ≡ course_in (apply_edits edits c) n
  kept_course none =
      ap (λ o. cond (is_chain_name n) (vector_of o) None)
      (ap (answered_by c.head (lookup_record c n)) none ∙ sym ((leave edits c fit).answered n))
