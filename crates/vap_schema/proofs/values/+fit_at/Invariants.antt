use Rattle.std.proofs.Common.{◌≡◌, ◌≤◌, length, drop}
use Rattle.std.specs.Prelude.{All, IsTrue}
use Rattle.std.specs.List.{list_all}
use Rattle.base_containers.specs.Gathered.{items_of, members_of}
use Rattle.cel_value.specs.Fits.{fits, HasItsField}
use Rattle.vap_schema.specs.Entries.{entry_fits}
use Rattle.vap_schema.specs.Paths.{path_text}
use Rattle.vap_schema.specs.Seen.{seen_items, seen_entries, seen_members, reader_of, readers_of}
use Rattle.vap_schema.proofs.Rest.{behind}
use Rattle.vap_schema.proofs.Ordered.{IsInOrder, names_in}
use Rattle.vap_schema.proofs.values.+fit_at.Given as goal

abbrev pub invariant-fit_items-loop-place : goal.invariant-fit_items-loop-place
invariant-fit_items-loop-place l =
    let here = (reader_of l.item_type).1 in record {
      exact : seen_items here (path_text l.path) 0 (items_of l.items)
          ≡ behind l.values.items (seen_items here (path_text l.path) l.place (items_of (drop l.place l.items)));
      fits : IsTrue (list_all (λ v. fits v l.item_type) l.values.items);
    }

abbrev pub invariant-fit_entries-loop-member : goal.invariant-fit_entries-loop-member
invariant-fit_entries-loop-member l =
    let here = (reader_of l.item_type).1 in record {
      exact : seen_entries here l.key_max (path_text l.path) (members_of l.members)
          ≡ behind l.entries.items (seen_entries here l.key_max (path_text l.path) (members_of (drop l.member-index l.members)));
      fits : IsTrue (list_all (entry_fits l.key_max l.item_type) l.entries.items);
    }

abbrev pub invariant-fit_members-loop-member : goal.invariant-fit_members-loop-member
invariant-fit_members-loop-member l = record {
  within : l.place ≤ length l.fields;
  ordered : IsInOrder (names_in (members_of (drop l.member-index l.members)));
  exact : seen_members (readers_of l.fields) (path_text l.path) (members_of l.members)
      ≡ behind l.entries.items
      (seen_members (readers_of (drop l.place l.fields)) (path_text l.path) (members_of (drop l.member-index l.members)));
  fits : All (HasItsField l.fields) l.entries.items;
}
