-- The lines of edits and of answers.
use Rattle.std.specs.Prelude.{◌≡◌, ℕ, List, [], ◌∷◌, ◌++◌, map, pos, negsuc, codes}
use Rattle.s57_types.specs.Heads.{head_name}
use Rattle.s57_types.specs.declared.fault.Unfit.TheVariants.{TooLong, BadText, BadName}
use Rattle.s57_types.specs.declared.head.HeadEdit.{HeadEdit}
use Rattle.s57_types.specs.declared.head.Level.TheVariants.{Zero, One}
use Rattle.s57_types.specs.declared.record.Rec.{Rec}
use Rattle.s57_types.specs.declared.record.Rec.TheVariants.{V, F}
use Rattle.cell_spec.specs.declared.edit.Edit.TheVariants.{Add, Set, Del, Head}
use Rattle.edit_sets.specs.declared.fault.FormFault.TheVariants.{Empty, TooMany, Twice, Unfit as UnfitAt, TooManyGuards}
use Rattle.sample_cells.specs.Parts.{vi, vc, ve, fe, at, node, edge, end_of, vector, spot}
use Rattle.text_spec.specs.EditLine.{edit_line}
use Rattle.history_spec.specs.declared.refusal.StateRefusal.TheVariants.{AddExists, SetMissing, DelMissing, CellFull, FindingsFull, HeadTooLong}
use Rattle.history_spec.specs.declared.reply.Reply.{Reply}
use Rattle.history_spec.specs.declared.reply.Reply.TheVariants.{Viewed, Formed, Newer, Refused, Accepted}
use Rattle.history_spec.specs.ReportText.{reply_line}

-- a text with its line feed
abbrev pub fed : List ℕ → List ℕ
fed text = text ++ (10 ∷ [])

-- an isolated node with attributes and soundings
abbrev pub sounded : Rec
sounded = V (record {
  name = vi 7;
  rver = 1;
  attrs = record { code = 113; value = 52 ∷ 32 ∷ 37 ∷ 127 ∷ 97 ∷ 240 ∷ [] } ∷ record { code = 2; value = [] } ∷ [];
  ends = [];
  plane = [];
  deep = (negsuc 0, pos 0, negsuc 2147483647) ∷ (pos 1, pos 2, pos 3) ∷ [];
})

-- a feature with each sort of item
abbrev pub full_feature : Rec
full_feature = F (record {
  name = fe 5;
  prim = 2;
  grup = 2;
  objl = 30;
  rver = 3;
  foid = record { agen = 550; fidn = 4294967295; fids = 65535 };
  attf = record { code = 18; value = 49 ∷ [] } ∷ [];
  natf = record { code = 300; value = 58 ∷ 61 ∷ 10 ∷ [] } ∷ [];
  partners = record { to = record { agen = 1; fidn = 2; fids = 3 }; rind = 2; comt = 120 ∷ [] } ∷ [];
  places = spot (ve 1) 2 255 255 ∷ spot (vc 2) 255 255 255 ∷ [];
})

-- a new edition, and new values with bytes that don't stand for themselves
abbrev pub new_edition : HeadEdit
new_edition = record { edtn = codes "2"; updn = codes "0"; uadt = codes "20240101"; isdt = codes "20240102"; aall = One; comt = [] }

abbrev pub odd_values : HeadEdit
odd_values = record { edtn = []; updn = 32 ∷ []; uadt = 0 ∷ codes "0240101"; isdt = codes "2024%102"; aall = Zero; comt = 65 ∷ 10 ∷ 195 ∷ [] }

abbrev pub edit_lines : List (List ℕ)
edit_lines = map edit_line (
    Add (node 1 (at 0 0)) ∷ Set (edge 2 1 3 (at 50 60 ∷ [])) ∷ Set (vector (ve 2) (end_of 1 (fe 1) ∷ []) ((negsuc 4999, negsuc 5999) ∷ [])) ∷
    Add sounded ∷ Set full_feature ∷ Del (vc 9) ∷ Del (fe 2) ∷ Head new_edition ∷ Head odd_values ∷ [])

abbrev pub EditsAreSpelled : Type 0
EditsAreSpelled = edit_lines ≡ map fed (
    codes "add vc 1 1 p=0,0" ∷
    codes "set ve 2 1 e=vc:1:255:255:1:255 e=vc:3:255:255:2:255 p=50,60" ∷
    codes "set ve 2 1 e=fe:1:255:255:1:255 p=-5000,-6000" ∷
    codes "add vi 7 1 a=113:4%20%25%7Fa%F0 a=2: d=-1,0,-2147483648 d=1,2,3" ∷
    codes "set fe 5 3 2 2 30 550 4294967295 65535 a=18:1 n=300::=%0A f=1:2:3:2:x s=ve:1:2:255:255 s=vc:2:255:255:255" ∷
    codes "del vc 9" ∷
    codes "del fe 2" ∷
    codes "set head edtn=2 updn=0 uadt=20240101 isdt=20240102 aall=1 comt=" ∷
    codes "set head edtn= updn=%20 uadt=%000240101 isdt=2024%25102 aall=0 comt=A%0A%C3" ∷ [])

abbrev pub replies : List Reply
replies =
    Viewed 0 2 ∷ Accepted 1 0 ∷ Formed Empty ∷ Formed (TooMany 4097) ∷ Formed (Twice 2) ∷ Formed (UnfitAt 1 TooLong) ∷ Formed (UnfitAt 2 BadText) ∷
    Formed (UnfitAt 3 BadName) ∷ Newer 1 (vc 1) 2 (Del (vc 1)) ∷ Refused (AddExists (vc 1)) ∷ Refused (SetMissing (ve 9)) ∷ Refused (DelMissing (fe 9)) ∷
    Refused (CellFull 262145) ∷ Refused FindingsFull ∷ Formed (TooManyGuards 4097) ∷
    Refused (HeadTooLong 100161) ∷ Newer 2 head_name 1 (Head new_edition) ∷ []

abbrev pub RepliesAreTold : Type 0
RepliesAreTold = map reply_line replies ≡ map fed (
    codes "view seen 0 findings 2" ∷
    codes "commit accepted 1 findings 0" ∷
    codes "commit refused empty" ∷
    codes "commit refused too many 4097" ∷
    codes "commit refused twice 2" ∷
    codes "commit refused unfit 1 too long" ∷
    codes "commit refused unfit 2 bad text" ∷
    codes "commit refused unfit 3 bad name" ∷
    codes "commit refused newer 1 vc 1 desk 2" ∷
    codes "commit refused exists vc 1" ∷
    codes "commit refused set missing ve 9" ∷
    codes "commit refused del missing fe 9" ∷
    codes "commit refused cell full 262145" ∷
    codes "commit refused findings full" ∷
    codes "commit refused too many guards 4097" ∷
    codes "commit refused head too long 100161" ∷
    codes "commit refused newer 2 head 0 desk 1" ∷ [])
