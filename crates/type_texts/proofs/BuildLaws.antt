-- A row that serves makes parts, and they have this row; the row of a type makes the type.
use Rattle.std.proofs.Common.{◌≡◌, ℕ, suc, ◌+◌, ◌<◌, ◌≤◌, ◌^◌, Bool, true, false, ltb, List, [], ◌∷◌, ◌++◌, Option, Some, None, refl, sym, ap, subst, ◌∙◌, arith}
use Rattle.std.proofs.lemmas.Bool.{ltb-false, le-ltb, lt-ltb}
use Rattle.std.proofs.lemmas.Option.{cond_some}
use Rattle.gv_bytes.specs.Reading.{◌>>=◌, Fails}
use Rattle.gv_bytes.specs.declared.unread.Unread.{Unread}
use Rattle.gv_bytes.specs.declared.unread.Unread.TheVariants as unread
use Rattle.gv_bytes.proofs.Options.{bind_some, guard_some, some_is}
use Rattle.type_model.specs.GoTypes.{GoType, GoSignature, GoTypes, GoFields, GoMethods, BasicType, DefinedType, PointerTo, SliceOf, ArrayOf, MapOf, ChanOf, FuncOf, StructOf, InterfaceOf, From, NoType, AndType, NoField, AndField, NoMethod, AndMethod, nodes, type_nodes, field_nodes, method_nodes, signature_nodes}
use Rattle.type_texts.specs.declared.pieces.Piece.{Piece}
use Rattle.type_texts.specs.declared.pieces.Piece.TheVariants as piece
use Rattle.type_texts.specs.declared.pieces.Sort.{Sort}
use Rattle.type_texts.specs.declared.pieces.Sort.TheVariants as sort
use Rattle.type_texts.specs.Orders.{methods_rise}
use Rattle.type_texts.specs.Texts.{type_count, field_count, method_count, is_variadic, Fits, SignatureFits, TypesFit, FieldsFit, MethodsFit}
use Rattle.type_texts.specs.Rows.{type_row, signature_row, types_row, fields_row, methods_row}
use Rattle.type_texts.specs.Pieces.{sort_of, wants_of, IsPiece, Serves}
use Rattle.type_texts.proofs.FrontLaws.{parts_row, Are, has_type, has_list, has_tag, has_signature, has_types, has_fields, has_methods}
use Rattle.type_texts.specs.Building.{Part, TypePart, ListPart, FieldPart, TagPart, MethodPart, SignaturePart, types_off, fields_off, methods_off, lists_off, small, type_over, in_order, placed, built_over, built}

-- ---- one piece more

pub record Placed (p : Piece) (wants : List Sort) (parts after : List Part) : Type 0 where
  pub row : parts_row after ≡ p ∷ parts_row parts
  pub are : Are (sort_of p ∷ wants) after

-- a type over what is there
record Over (t : GoType) (parts after : List Part) : Type 0 where
  is : TypePart t ∷ parts ≡ after
  small : nodes t ≤ 10000

over_from : (t : GoType) (parts after : List Part) → type_over t parts ≡ Some after → Over t parts after
over_from t parts after e =
    let g = bind_some (small t) (λ s. Some (TypePart s ∷ parts)) after e in
    let q = guard_some (ltb 10000 (nodes t)) (Some t) g.0 g.1 in
    record {
      is = ap (λ (s : GoType). TypePart s ∷ parts) (some_is t g.0 q.1) ∙ some_is (TypePart g.0 ∷ parts) after g.2;
      small = ltb-false _ _ q.0;
    }

over_placed : (p : Piece) (wants : List Sort) (t : GoType) (parts more after : List Part) → sort_of p ≡ sort.OneType → type_over t more ≡ Some after → Fits t → Are wants more
    → type_row t (parts_row more) ≡ p ∷ parts_row parts → Placed p wants parts after
over_placed p wants t parts more after one e fits are row =
    let o = over_from t more after e in
    let made : Are (sort.OneType ∷ wants) (TypePart t ∷ more) = (record { fits = fits; small = o.small }, are) in
    record {
      row = ap parts_row (sym o.is) ∙ row;
      are = subst (λ (s : Sort). Are (s ∷ wants) after) (sym one) (subst (λ (x : List Part). Are (sort.OneType ∷ wants) x) o.is made);
    }

-- the parameters and results in front
record HasLists (variadic : Bool) (wants : List Sort) (parts : List Part) : Type 0 where
  s : GoSignature
  more : List Part
  off : lists_off variadic parts ≡ Some (s, more)
  same : is_variadic s ≡ variadic
  row : parts_row parts ≡ signature_row s (parts_row more)
  fits : SignatureFits s
  rest : Are wants more

has_lists : (variadic : Bool) (wants : List Sort) (parts : List Part) → Are (sort.SomeTypes ∷ sort.SomeTypes ∷ wants) parts → HasLists variadic wants parts
has_lists variadic wants parts h =
    let a = has_list (sort.SomeTypes ∷ wants) parts h in
    let b = has_list wants a.more a.rest in
    let whole : parts ≡ ListPart a.ts ∷ ListPart b.ts ∷ b.more = a.is ∙ ap (λ (x : List Part). ListPart a.ts ∷ x) b.is in
    record {
      s = From a.ts b.ts variadic;
      more = b.more;
      off = ap (lists_off variadic) whole;
      same = refl;
      row = ap parts_row whole;
      fits = (a.fits, b.fits);
      rest = b.rest;
    }

pub place : (p : Piece) (wants : List Sort) (parts after : List Part) → IsPiece p → Are (wants_of p ++ wants) parts → placed p parts ≡ Some after → Placed p wants parts after
place (piece.Basic k) wants parts after fits h e = over_placed (piece.Basic k) wants (BasicType k) parts parts after refl e tt h refl
place (piece.Defined name) wants parts after fits h e = over_placed (piece.Defined name) wants (DefinedType name) parts parts after refl e fits h refl
place piece.Pointer wants parts after fits h e =
    let t = has_type wants parts h in
    over_placed piece.Pointer wants (PointerTo t.t) parts t.more after refl (ap (placed piece.Pointer) (sym t.is) ∙ e) t.fits.fits t.rest (ap (λ (x : List Part). piece.Pointer ∷ parts_row x) (sym t.is))
place piece.Slice wants parts after fits h e =
    let t = has_type wants parts h in
    over_placed piece.Slice wants (SliceOf t.t) parts t.more after refl (ap (placed piece.Slice) (sym t.is) ∙ e) t.fits.fits t.rest (ap (λ (x : List Part). piece.Slice ∷ parts_row x) (sym t.is))
place (piece.Array n) wants parts after fits h e =
    let t = has_type wants parts h in
    over_placed (piece.Array n) wants (ArrayOf n t.t) parts t.more after refl (ap (placed (piece.Array n)) (sym t.is) ∙ e) (fits, t.fits.fits) t.rest (ap (λ (x : List Part). piece.Array n ∷ parts_row x) (sym t.is))
place piece.Map wants parts after fits h e =
    let k = has_type (sort.OneType ∷ wants) parts h in
    let t = has_type wants k.more k.rest in
    let whole : parts ≡ TypePart k.t ∷ TypePart t.t ∷ t.more = k.is ∙ ap (λ (x : List Part). TypePart k.t ∷ x) t.is in
    over_placed piece.Map wants (MapOf k.t t.t) parts t.more after refl (ap (placed piece.Map) (sym whole) ∙ e) (k.fits.fits, t.fits.fits) t.rest (ap (λ (x : List Part). piece.Map ∷ parts_row x) (sym whole))
place (piece.Chan direction) wants parts after fits h e =
    let t = has_type wants parts h in
    over_placed (piece.Chan direction) wants (ChanOf direction t.t) parts t.more after refl (ap (placed (piece.Chan direction)) (sym t.is) ∙ e) t.fits.fits t.rest (ap (λ (x : List Part). piece.Chan direction ∷ parts_row x) (sym t.is))
place (piece.Func variadic) wants parts after fits h e =
    let s = has_lists variadic wants parts h in
    over_placed (piece.Func variadic) wants (FuncOf s.s) parts s.more after refl (ap (λ (o : Option (GoSignature × List Part)). o >>= λ s. type_over (FuncOf s.0) s.1) (sym s.off) ∙ e) s.fits s.rest
    (ap (λ (b : Bool). piece.Func b ∷ signature_row s.s (parts_row s.more)) s.same ∙ ap (λ (x : List Piece). piece.Func variadic ∷ x) (sym s.row))
place (piece.List n) wants parts after fits h e =
    let t = has_types n wants parts h in
    let is : ListPart t.ts ∷ t.more ≡ after = some_is (ListPart t.ts ∷ t.more) after (ap (λ (o : Option (GoTypes × List Part)). o >>= λ ts. Some (ListPart ts.0 ∷ ts.1)) (sym t.off) ∙ e) in
    subst (λ (x : List Part). Placed (piece.List n) wants parts x) is (record {
      row = ap (λ (k : ℕ). piece.List k ∷ types_row t.ts (parts_row t.more)) t.size ∙ ap (λ (x : List Piece). piece.List n ∷ x) (sym t.row);
      are = ((omega (arith, fits, t.size), t.fits), t.rest);
    })
place (piece.Struct n) wants parts after fits h e =
    let t = has_fields n wants parts h in
    over_placed (piece.Struct n) wants (StructOf t.fs) parts t.more after refl (ap (λ (o : Option (GoFields × List Part)). o >>= λ fs. type_over (StructOf fs.0) fs.1) (sym t.off) ∙ e) (omega (arith, fits, t.size), t.fits) t.rest
    (ap (λ (k : ℕ). piece.Struct k ∷ fields_row t.fs (parts_row t.more)) t.size ∙ ap (λ (x : List Piece). piece.Struct n ∷ x) (sym t.row))
place (piece.Field name owner embedded) wants parts after fits h e =
    let a = has_type (sort.OneTag ∷ wants) parts h in
    let b = has_tag wants a.more a.rest in
    let whole : parts ≡ TypePart a.t ∷ TagPart b.tag ∷ b.more = a.is ∙ ap (λ (x : List Part). TypePart a.t ∷ x) b.is in
    let is : FieldPart (record { name = name; owner = owner; embedded = embedded; of = a.t; tag = b.tag }) ∷ b.more ≡ after = some_is (FieldPart (record { name = name; owner = owner; embedded = embedded; of = a.t; tag = b.tag }) ∷ b.more) after (ap (placed (piece.Field name owner embedded)) (sym whole) ∙ e) in
    subst (λ (x : List Part). Placed (piece.Field name owner embedded) wants parts x) is (record {
      row = ap (λ (x : List Part). piece.Field name owner embedded ∷ parts_row x) (sym whole);
      are = ((fits, a.fits.fits, b.fits), b.rest);
    })
place (piece.Tag tag) wants parts after fits h e =
    subst (λ (x : List Part). Placed (piece.Tag tag) wants parts x) (some_is (TagPart tag ∷ parts) after e) (record { row = refl; are = (fits, h) })
place (piece.Interface n) wants parts after fits h e =
    let t = has_methods n wants parts h in
    let f = ap (λ (o : Option (GoMethods × List Part)). o >>= λ ms. in_order ms.0 >>= λ x. type_over (InterfaceOf x) ms.1) (sym t.off) ∙ e in
    let g = bind_some (in_order t.ms) (λ x. type_over (InterfaceOf x) t.more) after f in
    let q = cond_some (methods_rise t.ms) t.ms g.0 g.1 in
    let low : method_count t.ms < 2 ^ 64 = omega (arith, fits, t.size) in
    over_placed (piece.Interface n) wants (InterfaceOf t.ms) parts t.more after refl (ap (λ (x : GoMethods). type_over (InterfaceOf x) t.more) q.1 ∙ g.2) ((low, q.0), t.fits) t.rest
    (ap (λ (k : ℕ). piece.Interface k ∷ methods_row t.ms (parts_row t.more)) t.size ∙ ap (λ (x : List Piece). piece.Interface n ∷ x) (sym t.row))
place (piece.Method name owner pointer) wants parts after fits h e =
    let s = has_signature wants parts h in
    let is : MethodPart (record { name = name; owner = owner; pointer = pointer; of = s.s }) ∷ s.more ≡ after = some_is (MethodPart (record { name = name; owner = owner; pointer = pointer; of = s.s }) ∷ s.more) after (ap (placed (piece.Method name owner pointer)) (sym s.is) ∙ e) in
    subst (λ (x : List Part). Placed (piece.Method name owner pointer) wants parts x) is (record {
      row = ap (λ (x : List Part). piece.Method name owner pointer ∷ parts_row x) (sym s.is);
      are = ((fits, s.fits), s.rest);
    })
place (piece.Signature variadic) wants parts after fits h e =
    let s = has_lists variadic wants parts h in
    let is : SignaturePart s.s ∷ s.more ≡ after = some_is (SignaturePart s.s ∷ s.more) after (ap (λ (o : Option (GoSignature × List Part)). o >>= λ s. Some (SignaturePart s.0 ∷ s.1)) (sym s.off) ∙ e) in
    subst (λ (x : List Part). Placed (piece.Signature variadic) wants parts x) is (record {
      row = ap (λ (b : Bool). piece.Signature b ∷ signature_row s.s (parts_row s.more)) s.same ∙ ap (λ (x : List Piece). piece.Signature variadic ∷ x) (sym s.row);
      are = (s.fits, s.rest);
    })

-- the parts that a row makes for what was wanted
pub record Made (wants : List Sort) (ps : List Piece) (parts : List Part) : Type 0 where
  pub row : parts_row parts ≡ ps
  pub are : Are wants parts

pub make : (wants : List Sort) (ps : List Piece) (parts : List Part) → Serves wants ps → built ps ≡ Some parts → Made wants ps parts
make [] [] parts h e = subst (λ (x : List Part). Made [] [] x) (some_is [] parts e) (record { row = refl; are = tt })
make [] (p ∷ ps) parts h e = absurd h
make (s ∷ wants) [] parts h e = absurd h
make (s ∷ wants) (p ∷ ps) parts h e =
    let b = bind_some (built ps) (placed p) parts e in
    let m = make (wants_of p ++ wants) ps b.0 h.1 b.1 in
    let d = place p wants b.0 parts h.0.1 m.are b.2 in
    record { row = d.row ∙ ap (λ (x : List Piece). p ∷ x) m.row; are = subst (λ (z : Sort). Are (z ∷ wants) parts) h.0.0 d.are }

-- ---- the row of a type makes it

types_parts : GoTypes → List Part → List Part
types_parts NoType parts = parts
types_parts (AndType of types) parts = TypePart of ∷ types_parts types parts

types_back : (ts : GoTypes) (parts : List Part) → types_off (type_count ts) (types_parts ts parts) ≡ Some (ts, parts)
unfolding types_parts
types_back NoType parts = refl
types_back (AndType of types) parts = let next : 1 + type_count types ≡ suc (type_count types) = omega arith in rw (next, types_back types parts) refl

fields_parts : GoFields → List Part → List Part
fields_parts NoField parts = parts
fields_parts (AndField name owner embedded of tag fields) parts = FieldPart (record { name = name; owner = owner; embedded = embedded; of = of; tag = tag }) ∷ fields_parts fields parts

fields_back : (fs : GoFields) (parts : List Part) → fields_off (field_count fs) (fields_parts fs parts) ≡ Some (fs, parts)
unfolding fields_parts
fields_back NoField parts = refl
fields_back (AndField name owner embedded of tag fields) parts = let next : 1 + field_count fields ≡ suc (field_count fields) = omega arith in rw (next, fields_back fields parts) refl

methods_parts : GoMethods → List Part → List Part
methods_parts NoMethod parts = parts
methods_parts (AndMethod name owner pointer of methods) parts = MethodPart (record { name = name; owner = owner; pointer = pointer; of = of }) ∷ methods_parts methods parts

methods_back : (ms : GoMethods) (parts : List Part) → methods_off (method_count ms) (methods_parts ms parts) ≡ Some (ms, parts)
unfolding methods_parts
methods_back NoMethod parts = refl
methods_back (AndMethod name owner pointer of methods) parts = let next : 1 + method_count methods ≡ suc (method_count methods) = omega arith in rw (next, methods_back methods parts) refl

pub over_wide : (t : GoType) (parts : List Part) → 10000 < nodes t → type_over t parts ≡ None
over_wide t parts lt = let high : ltb 10000 (nodes t) ≡ true = lt-ltb _ _ lt in rw high refl

pub over_is : (t : GoType) (parts : List Part) → nodes t ≤ 10000 → type_over t parts ≡ Some (TypePart t ∷ parts)
over_is t parts le = let low : ltb 10000 (nodes t) ≡ false = le-ltb _ _ le in rw low refl

signature_parts : GoSignature → List Part → List Part
signature_parts (From params results variadic) parts = ListPart params ∷ ListPart results ∷ parts

lists_back : (s : GoSignature) (parts : List Part) → lists_off (is_variadic s) (signature_parts s parts) ≡ Some (s, parts)
unfolding signature_parts
lists_back (From params results variadic) parts = refl

mutual
  unfolding types_parts fields_parts methods_parts signature_parts

  pub row_built : (t : GoType) (rest : List Piece) (parts : List Part) → Fits t → nodes t ≤ 10000 → built rest ≡ Some parts → built (type_row t rest) ≡ Some (TypePart t ∷ parts)
  row_built (BasicType k) rest parts fits le e = rw e refl
  row_built (DefinedType name) rest parts fits le e = rw e refl
  row_built (PointerTo of) rest parts fits le e = rw (row_built of rest parts fits (omega (arith, le)) e) (over_is (PointerTo of) parts le)
  row_built (SliceOf of) rest parts fits le e = rw (row_built of rest parts fits (omega (arith, le)) e) (over_is (SliceOf of) parts le)
  row_built (ArrayOf size of) rest parts fits le e = rw (row_built of rest parts fits.1 (omega (arith, le)) e) (over_is (ArrayOf size of) parts le)
  row_built (MapOf key of) rest parts fits le e =
      rw (row_built key (type_row of rest) (TypePart of ∷ parts) fits.0 (omega (arith, le)) (row_built of rest parts fits.1 (omega (arith, le)) e)) (over_is (MapOf key of) parts le)
  row_built (ChanOf direction of) rest parts fits le e = rw (row_built of rest parts fits (omega (arith, le)) e) (over_is (ChanOf direction of) parts le)
  row_built (FuncOf of) rest parts fits le e =
      rw (signature_built of rest parts fits le e, lists_back of parts) (over_is (FuncOf of) parts le)
  row_built (StructOf fields) rest parts fits le e = rw (fields_built fields rest parts fits.1 (omega (arith, le)) e, fields_back fields parts) (over_is (StructOf fields) parts le)
  row_built (InterfaceOf methods) rest parts fits le e =
      let order : methods_rise methods ≡ true = fits.0.1 in
      rw (methods_built methods rest parts fits.1 (omega (arith, le)) e, methods_back methods parts, order) (over_is (InterfaceOf methods) parts le)

  signature_built : (s : GoSignature) (rest : List Piece) (parts : List Part) → SignatureFits s → signature_nodes s ≤ 10000 → built rest ≡ Some parts → built (signature_row s rest) ≡ Some (signature_parts s parts)
  signature_built (From params results variadic) rest parts fits le e =
      let one : built (piece.List (type_count results) ∷ types_row results rest) ≡ Some (ListPart results ∷ parts) = rw (types_built results rest parts fits.1.1 (omega (arith, le)) e, types_back results parts) refl in
      ap (λ (o : Option (List Part)). o >>= placed (piece.List (type_count params))) (types_built params (piece.List (type_count results) ∷ types_row results rest) (ListPart results ∷ parts) fits.0.1 (omega (arith, le)) one)
      ∙ rw (types_back params (ListPart results ∷ parts)) refl

  types_built : (ts : GoTypes) (rest : List Piece) (parts : List Part) → TypesFit ts → type_nodes ts ≤ 10000 → built rest ≡ Some parts → built (types_row ts rest) ≡ Some (types_parts ts parts)
  types_built NoType rest parts fits le e = e
  types_built (AndType of types) rest parts fits le e =
      row_built of (types_row types rest) (types_parts types parts) fits.0 (omega (arith, le)) (types_built types rest parts fits.1 (omega (arith, le)) e)

  fields_built : (fs : GoFields) (rest : List Piece) (parts : List Part) → FieldsFit fs → field_nodes fs ≤ 10000 → built rest ≡ Some parts → built (fields_row fs rest) ≡ Some (fields_parts fs parts)
  fields_built NoField rest parts fits le e = e
  fields_built (AndField name owner embedded of tag fields) rest parts fits le e =
      let tagged : built (piece.Tag tag ∷ fields_row fields rest) ≡ Some (TagPart tag ∷ fields_parts fields parts) = rw (fields_built fields rest parts fits.3 (omega (arith, le)) e) refl in
      rw (row_built of (piece.Tag tag ∷ fields_row fields rest) (TagPart tag ∷ fields_parts fields parts) fits.1 (omega (arith, le)) tagged) refl

  methods_built : (ms : GoMethods) (rest : List Piece) (parts : List Part) → MethodsFit ms → method_nodes ms ≤ 10000 → built rest ≡ Some parts → built (methods_row ms rest) ≡ Some (methods_parts ms parts)
  methods_built NoMethod rest parts fits le e = e
  methods_built (AndMethod name owner pointer of methods) rest parts fits le e =
      let more = methods_built methods rest parts fits.2 (omega (arith, le)) e in
      let signed : built (piece.Signature (is_variadic of) ∷ signature_row of (methods_row methods rest)) ≡ Some (SignaturePart of ∷ methods_parts methods parts) =
      rw (signature_built of (methods_row methods rest) (methods_parts methods parts) fits.1 (omega (arith, le)) more, lists_back of (methods_parts methods parts)) refl in
      rw signed refl

-- ---- placing the last piece first

pub built_last : (ps : List Piece) (p : Piece) (o : Option (List Part)) → built_over (ps ++ p ∷ []) o ≡ built_over ps (o >>= placed p)
built_last [] p o = refl
built_last (q ∷ ps) p o = ap (λ (x : Option (List Part)). x >>= placed q) (built_last ps p o)

pub built_none : (ps : List Piece) → built_over ps None ≡ None
built_none [] = refl
built_none (q ∷ ps) = ap (λ (x : Option (List Part)). x >>= placed q) (built_none ps)

pub built_step : (all rest : List Piece) (p : Piece) (before after : List Part) (total : Option (List Part)) → all ≡ rest ++ p ∷ [] → placed p before ≡ Some after → built_over all (Some before) ≡ total → built_over rest (Some after) ≡ total
built_step all rest p before after total is step so_far =
    ap (built_over rest) (sym step) ∙ sym (built_last rest p (Some before)) ∙ ap (λ (ps : List Piece). built_over ps (Some before)) (sym is) ∙ so_far

built_stops : (all rest : List Piece) (p : Piece) (before : List Part) (total : Option (List Part)) → all ≡ rest ++ p ∷ [] → placed p before ≡ None → built_over all (Some before) ≡ total → total ≡ None
built_stops all rest p before total is step so_far =
    sym so_far ∙ ap (λ (ps : List Piece). built_over ps (Some before)) is ∙ built_last rest p (Some before) ∙ ap (built_over rest) step ∙ built_none rest

pub built_fails : (e : Unread) (all rest : List Piece) (p : Piece) (before : List Part) (total : Option (List Part)) → all ≡ rest ++ p ∷ [] → Fails e (placed p before) → built_over all (Some before) ≡ total → Fails e total
built_fails unread.Memory all rest p before total is h so_far = tt
built_fails unread.Unspelled all rest p before total is h so_far = built_stops all rest p before total is h so_far

pub built_all : (all : List Piece) (now : List Part) (total : Option (List Part)) → all ≡ [] → built_over all (Some now) ≡ total → total ≡ Some now
built_all all now total is so_far = sym so_far ∙ ap (λ (ps : List Piece). built_over ps (Some now)) is
