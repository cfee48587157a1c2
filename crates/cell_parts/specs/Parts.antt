-- The parts of small cells.
use Rattle.std.specs.Prelude.{ℕ, pos, List, [], ◌∷◌, codes}
use Rattle.s57_types.specs.declared.head.Head.{Head}
use Rattle.s57_types.specs.declared.name.Kind.{Kind}
use Rattle.s57_types.specs.declared.name.Kind.TheVariants.{Vc, Ve, Fe}
use Rattle.s57_types.specs.declared.name.RecName.{RecName}
use Rattle.s57_types.specs.declared.record.Attr.{Attr}
use Rattle.s57_types.specs.declared.record.End.{End}
use Rattle.s57_types.specs.declared.record.Feature.{Feature}
use Rattle.s57_types.specs.declared.record.Spot.{Spot}
use Rattle.s57_types.specs.declared.record.Rec.{Rec}
use Rattle.s57_types.specs.declared.record.Rec.TheVariants.{V, F}

-- a head at the lexical levels AALL and NALL
abbrev pub head : ℕ → ℕ → Head
head aall nall = record {
  dsid_rcid = 1;
  intu = 5;
  dsnm = codes "MAKE.000";
  edtn = codes "1";
  updn = codes "0";
  uadt = codes "20240101";
  isdt = codes "20240101";
  sted = codes "03.1";
  prsp = 1;
  psdn = [];
  pred = codes "2.0";
  prof = 1;
  agen = 1;
  dsid_comt = [];
  aall = aall;
  nall = nall;
  dspm_rcid = 1;
  hdat = 2;
  vdat = 23;
  sdat = 23;
  cscl = 10000;
  duni = 1;
  huni = 1;
  puni = 1;
  coun = 1;
  comf = 10000000;
  somf = 10;
  dspm_comt = [];
}

-- the same without the names of the data set and of its edition
abbrev pub bare_head : Head
bare_head = record (head 0 0) { dsnm = []; edtn = []; updn = []; pred = [] }

abbrev pub name : Kind → ℕ → RecName
name kind n = record { kind = kind; id = n }

-- a connected node at a place
abbrev pub node : ℕ → ℕ → ℕ → Rec
node n y x = V (record { name = name Vc n; rver = 1; attrs = []; ends = []; plane = (pos y, pos x) ∷ []; deep = [] })

abbrev pub end_at : ℕ → ℕ → End
end_at topi n = record { to = name Vc n; ornt = 255; usag = 255; topi = topi; mask = 255 }

-- an edge without points from one connected node to another
abbrev pub edge : ℕ → ℕ → ℕ → Rec
edge n first last = V (record { name = name Ve n; rver = 1; attrs = []; ends = end_at 1 first ∷ end_at 2 last ∷ []; plane = []; deep = [] })

abbrev pub outer : ℕ → ℕ → Spot
outer n ornt = record { to = name Ve n; ornt = ornt; usag = 1; mask = 255 }

-- a feature of a primitive, a group and an object class that has nothing else; its identifier has its number
abbrev pub bare_feature : ℕ → ℕ → ℕ → ℕ → Feature
bare_feature n prim grup objl = record {
  name = name Fe n;
  prim = prim;
  grup = grup;
  objl = objl;
  rver = 1;
  foid = record { agen = 1; fidn = n; fids = 1 };
  attf = [];
  natf = [];
  partners = [];
  places = [];
}

-- an area of a group and an object class
abbrev pub area : ℕ → ℕ → ℕ → List Attr → List Spot → Rec
area n grup objl attf places = F (record (bare_feature n 3 grup objl) { attf = attf; places = places })
