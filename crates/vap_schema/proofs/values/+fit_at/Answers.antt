use Rattle.std.proofs.Common.{◌+◌, List, [], length, nat_le, ◌&&◌, drop, ◌∷◌, ◌++◌, Ok, Err}
use Rattle.std.proofs.Common.{refl, ap, sym, ◌∙◌, subst, arith}
use Rattle.std.specs.Prelude.{IsTrue, option_to_list}
use Rattle.std.specs.List.{list_all}
use Rattle.std.proofs.lemmas.List.{drop_more, drop_all}
use Rattle.std.proofs.lemmas.List.Elements.{All-nil, All-same}
use Rattle.std.proofs.lemmas.Result.{err_from_is_err_and}
use Rattle.base_containers.specs.declared.text.Keyed.{Keyed}
use Rattle.base_containers.specs.Failures.{Answers}
use Rattle.base_containers.specs.Gathered.{items_of, members_of}
use Rattle.base_containers.proofs.Gathers.{items_len-items_of, members_len-members_of}
use Rattle.cel_value.specs.declared.value.Value as value
use Rattle.cel_value.specs.declared.value.Value.{Value}
use Rattle.cel_value.specs.declared.cel_type.Field.{Field}
use Rattle.cel_value.specs.declared.cel_type.CelType as type
use Rattle.cel_value.specs.declared.cel_type.CelType.{CelType}
use Rattle.vap_schema.specs.InStep.{first_under}
use Rattle.cel_value.specs.Fits.{fits, HasItsField}
use Rattle.vap_schema.specs.Entries.{entry_fits}
use Rattle.vap_schema.specs.Paths.{path_text}
use Rattle.vap_schema.specs.Seen.{seen, seen_under, seen_entries, seen_member, seen_members, reader_of, readers_of}
use Rattle.vap_schema.proofs.Rest.{behind, behind-none, behind-all}
use Rattle.vap_schema.proofs.Turns.{path_text-Field, path_text-Item, all_push, items_stop, items_go, items_end, entries_stop, entries_go}
use Rattle.vap_schema.proofs.Lengths.{list_over, list_read, list_fits, map_over, map_read, map_fits}
use Rattle.vap_schema.proofs.Ordered.{IsInOrder, names_in, entries_in_order, members_in_order, names_in_order, names_behind}
use Rattle.vap_schema.proofs.Fitted.{all_with, has_field, made_fits, fits-List, fits-Map}
use Rattle.vap_schema.proofs.Parts.{entry_read, field_stops, stops}
use Rattle.vap_schema.proofs.InStepMembers.{step_stops, step_goes, named_here, field_here}
use Rattle.vap_schema.proofs.values.+fit_at.Goals as goal

-- ---- a level

pub fit_at-returns-in-List-clause-exact : goal.fit_at-returns-in-List-clause-exact
fit_at-returns-in-List-clause-exact t c =
    let path = path_text c.args.path.now in
    let d = c.args.document.now in
    let max = c.in-List.max in
    let plain = c.in-List.plain in
    subst (λ (u : CelType). Answers (seen path u d) c.list_at.result) (sym c.in-List.is)
    (subst (λ (u : CelType). Answers (seen path (type.List max plain u) d) c.list_at.result) c.get-in-List.ensures
    (c.list_at.ensures.exact plain))

pub list_at-returns-in-Some-clause-fits : goal.list_at-returns-in-Some-clause-fits
list_at-returns-in-Some-clause-fits t c = λ plain.
    let max = c.args.max in
    let item = c.args.item_type.now in
    made_fits value.List c.fit_list.result c.list_value.result
    (λ (vs : List Value). IsTrue (nat_le (length vs) max && list_all (λ v. fits v item) vs))
    (type.List max plain item) c.list_value.ensures c.fit_list.ensures.fits (λ vs h. fits-List max plain item vs ∙ h)

pub map_at-returns-in-Some-clause-fits : goal.map_at-returns-in-Some-clause-fits
map_at-returns-in-Some-clause-fits t c =
    let max = c.args.max in
    let key_max = c.args.key_max in
    let item = c.args.item_type.now in
    made_fits value.Map c.fit_map.result c.map_value.result
    (λ (es : List (Keyed Value)). IsTrue (nat_le (length es) max && list_all (entry_fits key_max item) es))
    (type.Map max key_max item) c.map_value.ensures c.fit_map.ensures.fits (λ es h. fits-Map max key_max item es ∙ h)

-- ---- lists

pub fit_list-returns-in_err-items-clause-exact : goal.fit_list-returns-in_err-items-clause-exact
fit_list-returns-in_err-items-clause-exact t c =
    let reading = (reader_of c.args.item_type.now).1 in
    let path = path_text c.args.path.now in
    let items = items_of c.args.items.now in
    let p = err_from_is_err_and c.from_residual.result c.from_residual.ensures.1 in
    rw (p.1, p.2) (list_over reading c.args.max _ path items _ (items_len-items_of c.args.items.now) c.in_err-items.ensures.limit)

pub fit_list-returns-clause-exact : goal.fit_list-returns-clause-exact
fit_list-returns-clause-exact t c =
    let reading = (reader_of c.args.item_type.now).1 in
    let path = path_text c.args.path.now in
    let items = items_of c.args.items.now in
    list_read reading c.args.max _ path items tt c.fit_items.result
    (items_len-items_of c.args.items.now) c.in_ok-items.ensures.limit
    (rw c.in_ok-items.ensures.same at c.fit_items.ensures.exact)

pub fit_list-returns-clause-fits : goal.fit_list-returns-clause-fits
fit_list-returns-clause-fits t c =
    let reading = (reader_of c.args.item_type.now).1 in
    let path = path_text c.args.path.now in
    let items = items_of c.args.items.now in
    list_fits reading c.args.max _ path items tt c.args.item_type.now c.fit_items.result
    (items_len-items_of c.args.items.now) c.in_ok-items.ensures.limit
    (rw c.in_ok-items.ensures.same at c.fit_items.ensures.exact) c.fit_items.ensures.fits

pub fit_items-loop-place-init : goal.fit_items-loop-place-init
fit_items-loop-place-init t c =
    let none = c.in_ok-values.ensures.items in
    record { exact = rw none (sym (behind-none _)); fits = rw none refl }

pub fit_items-returns-in_err-fit_at-clause-exact : goal.fit_items-returns-in_err-fit_at-clause-exact
fit_items-returns-in_err-fit_at-clause-exact t c =
    let reading = (reader_of c.args.item_type.now).1 in
    let path = path_text c.args.path.now in
    let p = err_from_is_err_and c.from_residual-in_err-fit_at.result c.from_residual-in_err-fit_at.ensures.1 in
    let l = c.loop-place in
    let item = c.index-items-place in
    rw (p.1, p.2)
    (items_stop reading path c.args.items.now l.place item.result l.values.items _ _ c.loop-place-test.true item.is l.invariant.exact
    (subst (λ q. Answers (reading q item.result) (Err c.in_err-fit_at.field-0.0)) (path_text-Item c.args.path l.place)
    c.in_err-fit_at.ensures.exact))

pub fit_items-loop-place-preserved : goal.fit_items-loop-place-preserved
fit_items-loop-place-preserved t c =
    let reading = (reader_of c.args.item_type.now).1 in
    let path = path_text c.args.path.now in
    let l = c.loop-place in record {
      exact = rw c.in_ok-push.ensures.items (items_go reading path c.args.items.now l.place c.index-items-place.result
          c.in_ok-fit_at.field-0 l.values.items _ c.loop-place-test.true c.index-items-place.is l.invariant.exact
          (rw (path_text-Item c.args.path l.place) at c.in_ok-fit_at.ensures.exact));
      fits = rw c.in_ok-push.ensures.items (all_push (λ (v : Value). fits v c.args.item_type.now) l.values.items
          c.in_ok-fit_at.field-0 l.invariant.fits c.in_ok-fit_at.ensures.fits);
    }

pub fit_items-returns-clause-exact : goal.fit_items-returns-clause-exact
fit_items-returns-clause-exact t c =
    let reading = (reader_of c.args.item_type.now).1 in
    let path = path_text c.args.path.now in
    let l = c.loop-place in
    items_end reading path c.args.items.now l.place l.values.items _ c.loop-place-test.false l.invariant.exact
    ∙ ap Ok (sym c.from_vec.ensures)

-- ---- maps

pub fit_map-returns-in_err-check_limit-clause-exact : goal.fit_map-returns-in_err-check_limit-clause-exact
fit_map-returns-in_err-check_limit-clause-exact t c =
    let reading = (reader_of c.args.item_type.now).1 in
    let path = path_text c.args.path.now in
    let members = members_of c.args.members.now in
    let key_max = c.args.key_max in
    let p = err_from_is_err_and c.from_residual.result c.from_residual.ensures.1 in
    rw (p.1, p.2) (map_over reading c.args.max key_max (length c.args.members.now) path members _
    (members_len-members_of c.args.members.now) c.in_err-check_limit.ensures)

pub fit_map-returns-clause-exact : goal.fit_map-returns-clause-exact
fit_map-returns-clause-exact t c =
    let reading = (reader_of c.args.item_type.now).1 in
    let path = path_text c.args.path.now in
    let members = members_of c.args.members.now in
    let key_max = c.args.key_max in
    map_read reading c.args.max key_max (length c.args.members.now) path members c.in_ok-check_limit.field-0 c.fit_entries.result
    (members_len-members_of c.args.members.now) c.in_ok-check_limit.ensures c.fit_entries.ensures.exact

pub fit_map-returns-clause-fits : goal.fit_map-returns-clause-fits
fit_map-returns-clause-fits t c =
    let reading = (reader_of c.args.item_type.now).1 in
    let path = path_text c.args.path.now in
    let members = members_of c.args.members.now in
    let key_max = c.args.key_max in
    map_fits reading c.args.max key_max (length c.args.members.now) path members c.in_ok-check_limit.field-0
    c.args.item_type.now c.fit_entries.result
    (members_len-members_of c.args.members.now) c.in_ok-check_limit.ensures
    c.fit_entries.ensures.exact c.fit_entries.ensures.fits

pub fit_entries-loop-member-init : goal.fit_entries-loop-member-init
fit_entries-loop-member-init t c =
    let none = c.in_ok-entries.ensures.items in
    record { exact = rw none (sym (behind-none _)); fits = rw none refl }

pub fit_entries-returns-in_err-fit_entry-clause-exact : goal.fit_entries-returns-in_err-fit_entry-clause-exact
fit_entries-returns-in_err-fit_entry-clause-exact t c =
    let reading = (reader_of c.args.item_type.now).1 in
    let path = path_text c.args.path.now in
    let key_max = c.args.key_max in
    let members = c.args.members.now in
    let p = err_from_is_err_and c.from_residual-in_err-fit_entry.result c.from_residual-in_err-fit_entry.ensures.1 in
    let l = c.loop-member in
    let m = c.member-item.result in
    let later = drop (l.member-index + 1) members in
    let here = drop_more members l.member-index m c.loop-member-test.true ∙ ap (λ x. x ∷ later) (sym c.member-item.is) in
    rw (p.1, p.2) (entries_stop reading key_max path m.0.now m.1 (members_of later) l.entries.items _ _
    (l.invariant.exact ∙ ap (λ es. behind l.entries.items (seen_entries reading key_max path (members_of es))) here)
    c.in_err-fit_entry.ensures.exact)

pub fit_entries-loop-member-preserved : goal.fit_entries-loop-member-preserved
fit_entries-loop-member-preserved t c =
    let reading = (reader_of c.args.item_type.now).1 in
    let path = path_text c.args.path.now in
    let key_max = c.args.key_max in
    let members = c.args.members.now in
    let l = c.loop-member in
    let m = c.member-item.result in
    let later = drop (l.member-index + 1) members in
    let here = drop_more members l.member-index m c.loop-member-test.true ∙ ap (λ x. x ∷ later) (sym c.member-item.is) in record {
      exact = rw c.in_ok-push.ensures.items (entries_go reading key_max path m.0.now m.1 (members_of later)
          c.in_ok-fit_entry.field-0 l.entries.items _
          (l.invariant.exact ∙ ap (λ es. behind l.entries.items (seen_entries reading key_max path (members_of es))) here)
          c.in_ok-fit_entry.ensures.exact);
      fits = rw c.in_ok-push.ensures.items (all_push (entry_fits key_max c.args.item_type.now) l.entries.items
          c.in_ok-fit_entry.field-0 l.invariant.fits c.in_ok-fit_entry.ensures.fits);
    }

pub fit_entries-from_vec-requires : goal.fit_entries-from_vec-requires
fit_entries-from_vec-requires t c =
    let path = path_text c.args.path.now in
    let key_max = c.args.key_max in
    let members = c.args.members.now in
    let l = c.loop-member in
    let here = (reader_of c.args.item_type.now).1 in
    let ended = ap (λ es. seen_entries here key_max path (members_of es)) (drop_all l.member-index members c.loop-member-test.false) in
    entries_in_order here key_max path (members_of members) l.entries.items (names_in_order members c.requires)
    (l.invariant.exact ∙ behind-all l.entries.items _ ended)

pub fit_entries-returns-clause-exact : goal.fit_entries-returns-clause-exact
fit_entries-returns-clause-exact t c =
    let reading = (reader_of c.args.item_type.now).1 in
    let path = path_text c.args.path.now in
    let key_max = c.args.key_max in
    let members = c.args.members.now in
    let l = c.loop-member in
    let ended = ap (λ es. seen_entries reading key_max path (members_of es)) (drop_all l.member-index members c.loop-member-test.false) in
    l.invariant.exact ∙ behind-all l.entries.items _ ended ∙ ap Ok (sym c.from_vec.ensures)

pub fit_entry-returns-clause-exact : goal.fit_entry-returns-clause-exact
fit_entry-returns-clause-exact t c =
    entry_read (reader_of c.args.item_type.now).1 c.args.key_max (path_text c.args.path.now) c.args.name.now c.args.member.now
    _ c.in_ok-check_key.field-0 c.under.result (path_text-Field c.args.path c.args.name) c.in_ok-check_key.ensures
    (c.under.ensures.exact _ c.fit_at.ensures.exact)

-- ---- objects

pub fit_object-returns-clause-exact : goal.fit_object-returns-clause-exact
fit_object-returns-clause-exact t c = c.complete.ensures.exact _ c.fit_members.ensures.exact

pub fit_field-returns-in_err-value-clause-exact : goal.fit_field-returns-in_err-value-clause-exact
fit_field-returns-in_err-value-clause-exact t c =
    let reader = reader_of c.args.cel_type.now in
    let name = c.args.name.now in
    let document = c.args.member.now in
    let p = err_from_is_err_and c.from_residual.result c.from_residual.ensures.1 in
    rw (p.1, p.2)
    (field_stops c.args.required reader (path_text c.args.path.now) name document _ (sym c.is_absent.ensures ∙ c.if-is_absent.false)
    (subst (λ q. Answers (seen_under reader.1 q name document) (Err c.in_err-value.field-0.0))
    (path_text-Field c.args.path c.args.name) (stops _ _ _ _ refl c.in_err-value.ensures.exact)))

pub fit_members-loop-member-init : goal.fit_members-loop-member-init
fit_members-loop-member-init t c =
    let none = c.in_ok-entries.ensures.items in record {
      within = omega arith;
      ordered = names_in_order c.args.members.now c.requires;
      exact = rw none (sym (behind-none _));
      fits = All-same (HasItsField c.args.fields.now) c.in_ok-entries.entries.items [] none (All-nil (HasItsField c.args.fields.now));
    }

pub fit_members-returns-in_err-entry-clause-exact : goal.fit_members-returns-in_err-entry-clause-exact
fit_members-returns-in_err-entry-clause-exact t c =
    let path = path_text c.args.path.now in
    let members = c.args.members.now in
    let p = err_from_is_err_and c.from_residual-in_err-entry.result c.from_residual-in_err-entry.ensures.1 in
    let all = c.as_slice-all in
    let found = c.place_from-place in
    let l = c.loop-member in
    let fields = c.args.fields.now in
    let m = c.member-item.result in
    let later = drop (l.member-index + 1) members in
    let here = drop_more members l.member-index m c.loop-member-test.true ∙ ap (λ x. x ∷ later) (sym c.member-item.is) in
    rw (p.1, p.2) (step_stops fields all.result.now path m.0.now m.0.now m.1 (members_of later) l.place
    found.result all.ensures.ordered refl all.ensures.entries found.ensures.value l.entries.items _
    (l.invariant.exact ∙ ap (λ es. behind l.entries.items (seen_members (readers_of (drop l.place fields)) path (members_of es))) here)
    _ c.in_err-entry.ensures.exact)

pub fit_members-loop-member-preserved : goal.fit_members-loop-member-preserved
fit_members-loop-member-preserved t c =
    let path = path_text c.args.path.now in
    let members = c.args.members.now in
    let all = c.as_slice-all in
    let found = c.place_from-place in
    let l = c.loop-member in
    let fields = c.args.fields.now in
    let m = c.member-item.result in
    let later = drop (l.member-index + 1) members in
    let more = drop_more members l.member-index m c.loop-member-test.true ∙ ap (λ x. x ∷ later) (sym c.member-item.is) in
    let ordered = subst (λ es. IsInOrder (names_in (members_of es))) more l.invariant.ordered in
    let entry = c.in_ok-entry in record {
      within = rw (← c.as_slice-all.ensures.entries) c.place_from-place.ensures.within;
      ordered = names_behind m.0.now (names_in (members_of later)) ordered;
      exact = rw c.in_ok-push_entry.ensures (step_goes fields all.result.now path m.0.now m.0.now m.1 (members_of later) l.place
          found.result all.ensures.ordered refl all.ensures.entries found.ensures.value l.entries.items _
          (l.invariant.exact
          ∙ ap (λ es. behind l.entries.items (seen_members (readers_of (drop l.place fields)) path (members_of es))) more)
          entry.entry ordered entry.ensures.exact);
      fits = All-same (HasItsField fields) c.push_entry.new.entries.items (l.entries.items ++ option_to_list entry.entry)
          c.in_ok-push_entry.ensures
          (all_with (HasItsField fields) l.entries.items entry.entry l.invariant.fits entry.ensures.fits);
    }

pub fit_members-from_vec-requires : goal.fit_members-from_vec-requires
fit_members-from_vec-requires t c =
    let path = path_text c.args.path.now in
    let members = c.args.members.now in
    let l = c.loop-member in
    let ended = ap (λ es. seen_members (readers_of (drop l.place c.args.fields.now)) path (members_of es))
    (drop_all l.member-index members c.loop-member-test.false) in
    members_in_order (readers_of c.args.fields.now) path (members_of members) l.entries.items (names_in_order members c.requires)
    (l.invariant.exact ∙ behind-all l.entries.items _ ended)

pub fit_members-returns-clause-exact : goal.fit_members-returns-clause-exact
fit_members-returns-clause-exact t c =
    let path = path_text c.args.path.now in
    let members = c.args.members.now in
    let l = c.loop-member in
    let ended = ap (λ es. seen_members (readers_of (drop l.place c.args.fields.now)) path (members_of es))
    (drop_all l.member-index members c.loop-member-test.false) in
    l.invariant.exact ∙ behind-all l.entries.items _ ended ∙ ap Ok (sym c.from_vec.ensures)

pub fit_members-returns-clause-fits : goal.fit_members-returns-clause-fits
fit_members-returns-clause-fits t c =
    All-same (HasItsField c.args.fields.now) c.from_vec.result c.loop-member.entries.items c.from_vec.ensures c.loop-member.invariant.fits

pub fit_member-returns-clause-exact : goal.fit_member-returns-clause-exact
fit_member-returns-clause-exact t c =
    let path = path_text c.args.path.now in
    let all = c.as_slice-fields.result.now in
    let f = c.index-fields-place.result in
    let known = sym c.is_at.ensures.value ∙ c.if-not-is_at.false in
    let found = field_here all c.args.place c.args.name.now f (c.is_at.ensures.within c.if-not-is_at.false) c.index-fields-place.is known in
    let name = c.args.name.now in
    let same =
    ap (λ (l : List (Keyed (Field CelType))). first_under name (readers_of (drop c.args.place l))) c.as_slice-fields.ensures.entries in
    subst (λ o. Answers (seen_member o path c.args.name.now c.args.member.now) c.fit_field.result)
    (sym found ∙ same) c.fit_field.ensures.exact

pub fit_member-returns-clause-fits : goal.fit_member-returns-clause-fits
fit_member-returns-clause-fits t c =
    let all = c.as_slice-fields.result.now in
    let f = c.index-fields-place.result in
    let lt = c.is_at.ensures.within c.if-not-is_at.false in
    let named =
    named_here all c.args.place c.args.name.now f lt c.index-fields-place.is (sym c.is_at.ensures.value ∙ c.if-not-is_at.false) in
    rw (← c.as_slice-fields.ensures.entries)
    (has_field all c.args.place f c.args.name.now c.fit_field.result lt c.index-fields-place.is named c.fit_field.ensures.fits)
