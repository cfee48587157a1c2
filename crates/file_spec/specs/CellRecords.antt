-- A cell that grows by the records of its file (S-57 Part 3, 7.3, 7.6 and 7.7).
use Rattle.std.specs.Prelude.{[], ◌∷◌, ◌++◌}
use Rattle.s57_types.specs.declared.name.Kind.{Kind}
use Rattle.s57_types.specs.declared.name.Kind.TheVariants.{Vi, Vc, Ve, Fe, Head as HeadKind}
use Rattle.s57_types.specs.declared.record.Rec.{Rec}
use Rattle.s57_types.specs.declared.field.Dsid.{Dsid}
use Rattle.s57_types.specs.declared.field.Dssi.{Dssi}
use Rattle.s57_types.specs.declared.field.Dspm.{Dspm}
use Rattle.s57_types.specs.declared.head.Head.{Head}
use Rattle.s57_types.specs.declared.cell.Cell.{Cell}
use Rattle.cell_spec.specs.Lookup.{name_of}
pub use Rattle.cell_spec.specs.Writable.{record_limit}

-- what the fields of the two head records say together
abbrev pub head_with : Dsid → Dssi → Dspm → Head
head_with d s p = record {
  dsid_rcid = d.rcid;
  intu = d.intu;
  dsnm = d.dsnm;
  edtn = d.edtn;
  updn = d.updn;
  uadt = d.uadt;
  isdt = d.isdt;
  sted = d.sted;
  prsp = d.prsp;
  psdn = d.psdn;
  pred = d.pred;
  prof = d.prof;
  agen = d.agen;
  dsid_comt = d.comt;
  aall = s.aall;
  nall = s.nall;
  dspm_rcid = p.rcid;
  hdat = p.hdat;
  vdat = p.vdat;
  sdat = p.sdat;
  cscl = p.cscl;
  duni = p.duni;
  huni = p.huni;
  puni = p.puni;
  coun = p.coun;
  comf = p.comf;
  somf = p.somf;
  dspm_comt = p.comt;
}

abbrev pub empty_cell : Head → Cell
empty_cell head = record { head = head; vi = []; vc = []; ve = []; fe = [] }

-- a cell with one record more in the list of a kind; the head stands in no list
abbrev pub with_record_of_kind : Kind → Rec → Cell → Cell
with_record_of_kind Vi r c = record c { vi = c.vi ++ (r ∷ []) }
with_record_of_kind Vc r c = record c { vc = c.vc ++ (r ∷ []) }
with_record_of_kind Ve r c = record c { ve = c.ve ++ (r ∷ []) }
with_record_of_kind Fe r c = record c { fe = c.fe ++ (r ∷ []) }
with_record_of_kind HeadKind r c = c

-- a record goes last in the list of its kind
abbrev pub with_record : Rec → Cell → Cell
with_record r c = with_record_of_kind (name_of r).kind r c
