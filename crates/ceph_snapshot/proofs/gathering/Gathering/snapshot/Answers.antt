use Rattle.std.proofs.Common.{◌≡◌, ◌∙◌, ◌<◌, ◌*◌, ◌&&◌, Bool, ℕ, All, List, Some, true, ap}
use Rattle.std.proofs.Common.{get_or, length, map, min, nat_lt, refl, rules, slice_get, slice_index, subst, sum_by, sym}
use Rattle.std.specs.List.{count_by}
use Rattle.std.specs.Option.{option_map}
use Rattle.std.proofs.lemmas.Option.{slice_get-get_or}
use Rattle.ceph_snapshot.specs.declared.directory.Directory.{Directory}
use Rattle.ceph_snapshot.specs.declared.tree.Node.{Node}
use Rattle.ceph_snapshot.specs.declared.tree.Sighting.{Sighting}
use Rattle.ceph_snapshot.specs.Authority.{LieAsClaimed, is_true_of}
use Rattle.ceph_snapshot.specs.Doubts.{have_left, is_named, is_named_doubtful, numbers_with, with_listed}
use Rattle.ceph_snapshot.specs.Gathered.{is_unknown_at, listed_at, listed_of, numbers_of, path_pin_at, with_owner, with_unknown}
use Rattle.ceph_snapshot.specs.Heard.{heard_in, spread_seen, tops_in}
use Rattle.ceph_snapshot.specs.Holding.{most_heat}
use Rattle.ceph_snapshot.specs.Named.{IsPathNamed}
use Rattle.ceph_snapshot.specs.Sightings.{HaveOwnPaths, LieAt, PathHeat, mean_account, position_of, account_of, account_at, account_by, torn_heat, with_path}
use Rattle.ceph_snapshot.proofs.ByPath.{HavePathsOf, all_borne_out, all_paths, claimed_once, listed_by_path, paths_of_nodes, seen_there, spread_by_path}
use Rattle.ceph_snapshot.proofs.Doubtful.{left_read, number_of, number_seen, numbers_read, seen_of}
use Rattle.ceph_snapshot.proofs.Owners.{listed_placed, owner_from_map, pin_placed, account_placed}
use Rattle.ceph_snapshot.proofs.Parents.{snapshot_of}
use Rattle.ceph_snapshot.proofs.Sighted.{at_map, seen_at}
use Rattle.ceph_snapshot.proofs.gathering.Gathering.snapshot.Goals as goal

pub see_all-requires : goal.see_all-requires
see_all-requires c = λ i t h.
    let nodes : List Node = c.args.self.tree.nodes in
    let claimed : LieAsClaimed nodes c.place_all.new.nodes.items =
    subst (λ (ns : List Node). LieAsClaimed ns c.place_all.new.nodes.items) c.into_parts-nodes.ensures.nodes c.place_all.ensures in
    c.into_parts-nodes.ensures.cold i t (sym (c.hold_tops.ensures.account i ∙ account_placed nodes c.place_all.new.nodes.items claimed i) ∙ h)

pub returns-clause-authority : goal.returns-clause-authority
returns-clause-authority c =
    let nodes : List Node = c.args.self.tree.nodes in
    let placed : List Node = c.place_all.new.nodes.items in
    let claimed : LieAsClaimed nodes placed = subst (λ (ns : List Node). LieAsClaimed ns placed) c.into_parts-nodes.ensures.nodes c.place_all.ensures in
    let confirmed : All (λ said. is_true_of placed said ≡ true) c.args.self.hearsay.items = search rules in
    let lie : LieAt placed c.keep.new.directories.items = λ i.
    c.in_ok-keep.ensures.place i
    ∙ (at_map position_of (λ (n : Node). position_of n.directory) c.in_ok-directories.directories.items c.see_all.new.nodes.items
    c.in_ok-directories.ensures.place i
    ∙ (c.see_all.ensures.place i ∙ c.hold_tops.ensures.place i)) in
    (placed, claimed, confirmed, lie)

pub returns-clause-seen : goal.returns-clause-seen
returns-clause-seen c = λ i d l.
    let nodes : List Node = c.args.self.tree.nodes in
    let placed : List Node = c.place_all.new.nodes.items in
    let held : List Node = c.hold_tops.new.nodes.items in
    let counted : List Node = c.see_all.new.nodes.items in
    let ss : List Sighting = c.into_parts-nodes.result.1.items in
    let ds : List Directory = c.keep.new.directories.items in
    let claimed : LieAsClaimed nodes placed = subst (λ (ns : List Node). LieAsClaimed ns placed) c.into_parts-nodes.ensures.nodes c.place_all.ensures in
    let here : slice_get ds i ≡ Some (get_or ds i d) = slice_get-get_or ds i d l in
    let all : account_at counted i ≡ option_map (λ (n : Node). account_by i ss n.directory) (slice_get held i) =
    subst (λ (those : List Sighting). account_at counted i ≡ option_map (λ (n : Node). account_by i those n.directory) (slice_get held i))
    c.as_slice-4.ensures.value (c.see_all.ensures.account i) in
    seen_at nodes (slice_get held i) (slice_get counted i) i c.args.samples (get_or ds i d) ss c.args.self.tree.seen
    c.into_parts-nodes.ensures.seen c.into_parts-nodes.ensures.apart c.into_parts-nodes.ensures.inside
    (c.hold_tops.ensures.account i ∙ account_placed nodes placed claimed i)
    (sym (ap (option_map account_of) here)
    ∙ (c.in_ok-keep.ensures.account i ∙ at_map account_of
    (λ (n : Node). with_listed n.listed (mean_account c.args.samples (account_of n.directory))) c.in_ok-directories.directories.items
    counted c.in_ok-directories.ensures.account i))
    all
    (sym (ap (option_map position_of) here)
    ∙ (c.in_ok-keep.ensures.place i
    ∙ (at_map position_of (λ (n : Node). position_of n.directory) c.in_ok-directories.directories.items counted
    c.in_ok-directories.ensures.place i ∙ c.see_all.ensures.place i)))

pub returns-clause-owner : goal.returns-clause-owner
returns-clause-owner c = λ i.
    let nodes : List Node = c.args.self.tree.nodes in
    let claimed : LieAsClaimed nodes c.place_all.new.nodes.items =
    subst (λ (ns : List Node). LieAsClaimed ns c.place_all.new.nodes.items) c.into_parts-nodes.ensures.nodes c.place_all.ensures in
    c.in_ok-keep.ensures.owner i
    ∙ (owner_from_map c.in_ok-directories.directories.items c.see_all.new.nodes.items (with_owner c.args.own.now c.args.ranks)
    c.in_ok-directories.ensures.owner i
    ∙ ap (option_map (with_owner c.args.own.now c.args.ranks)) (c.see_all.ensures.pinned i
    ∙ (c.hold_tops.ensures.pinned i ∙ pin_placed nodes c.place_all.new.nodes.items claimed i)))

pub returns-clause-listed : goal.returns-clause-listed
returns-clause-listed c = λ i.
    let nodes : List Node = c.args.self.tree.nodes in
    let placed : List Node = c.place_all.new.nodes.items in
    let claimed : LieAsClaimed nodes placed = subst (λ (ns : List Node). LieAsClaimed ns placed) c.into_parts-nodes.ensures.nodes c.place_all.ensures in
    let held : listed_at c.hold_tops.new.nodes.items i
    ≡ option_map (with_unknown (is_unknown_at c.args.self.is_listed c.args.self.tops.items i)) (listed_at placed i) =
    subst (λ (tops : List ℕ). listed_at c.hold_tops.new.nodes.items i
    ≡ option_map (with_unknown (is_unknown_at c.args.self.is_listed tops i)) (listed_at placed i)) c.as_slice-3.ensures.value
    (c.hold_tops.ensures.listed i) in
    c.in_ok-keep.ensures.listed i
    ∙ (at_map listed_of (λ (n : Node). listed_of n.directory) c.in_ok-directories.directories.items c.see_all.new.nodes.items
    c.in_ok-directories.ensures.listed i
    ∙ (c.see_all.ensures.listed i
    ∙ (held ∙ ap (option_map (with_unknown (is_unknown_at c.args.self.is_listed c.args.self.tops.items i)))
    (listed_placed nodes placed claimed i))))

pub returns-clause-snapshot : goal.returns-clause-snapshot
unfolding returns-clause-authority
returns-clause-snapshot c =
    let nodes : List Node = c.args.self.tree.nodes in
    let placed : List Node = c.place_all.new.nodes.items in
    snapshot_of nodes placed (record { directories = c.keep.new.directories; spread = c.in_ok-spread.spread }) c.args.own.now c.args.ranks
    c.into_parts-nodes.ensures.below (returns-clause-authority c).1 (returns-clause-authority c).3 (returns-clause-owner c)
    c.in_ok-keep.ensures.kept c.in_ok-spread.ensures.size

pub returns-clause-there : goal.returns-clause-there
returns-clause-there c =
    let nodes : List Node = c.args.self.tree.nodes in
    let ds : List Directory = c.keep.new.directories.items in
    seen_there nodes ds c.into_parts-nodes.result.1.items c.args.self.tree.seen (paths_of_nodes c.args.own.now c.args.ranks nodes ds (returns-clause-owner c))
    c.into_parts-nodes.ensures.inside c.into_parts-nodes.ensures.seen

pub returns-clause-spread : goal.returns-clause-spread
returns-clause-spread c = λ rank l.
    let nodes : List Node = c.args.self.tree.nodes in
    let counted : List Node = c.see_all.new.nodes.items in
    let ds : List Directory = c.keep.new.directories.items in
    let ss : List Sighting = c.into_parts-nodes.result.1.items in
    let samples : ℕ = c.args.samples in
    let lie : LieAt counted ds = λ i.
    c.in_ok-keep.ensures.place i ∙ at_map position_of (λ (n : Node). position_of n.directory) c.in_ok-directories.directories.items counted
    c.in_ok-directories.ensures.place i in
    let read : slice_index c.in_ok-spread.spread.items rank ≡ min most_heat (sum_by (torn_heat counted samples rank) ss) =
    c.in_ok-spread.ensures.heats rank l
    ∙ (ap (λ (ns : List Node). min most_heat (sum_by (torn_heat ns samples rank) c.as_slice-6.result.now)) c.as_slice-5.ensures.value
    ∙ ap (λ (those : List Sighting). min most_heat (sum_by (torn_heat counted samples rank) those)) c.as_slice-6.ensures.value) in
    read
    ∙ ap (min most_heat)
    (spread_by_path nodes counted ds samples rank ss c.into_parts-nodes.ensures.apart
    (paths_of_nodes c.args.own.now c.args.ranks nodes ds (returns-clause-owner c)) lie c.into_parts-nodes.ensures.inside
    ∙ ap (sum_by (spread_seen ds samples rank)) c.into_parts-nodes.ensures.seen)

pub returns-clause-told : goal.returns-clause-told
returns-clause-told c = λ facts was.
    let nodes : List Node = c.args.self.tree.nodes in
    let ds : List Directory = c.keep.new.directories.items in
    let found = returns-clause-authority c in
    let paths : HavePathsOf nodes ds = paths_of_nodes c.args.own.now c.args.ranks nodes ds (returns-clause-owner c) in
    record {
      heard = all_borne_out nodes found.0 ds c.args.self.hearsay.items (heard_in facts) c.into_parts-nodes.ensures.apart paths found.3 was.heard found.2;
      entries = listed_by_path nodes ds c.args.self.tops.items (tops_in facts) c.args.self.is_listed c.into_parts-nodes.ensures.apart paths
          was.tops (returns-clause-listed c);
      once = claimed_once c.args.self facts was;
    }

pub returns-clause-named : goal.returns-clause-named
returns-clause-named c = λ facts was.
    let nodes : List Node = c.args.self.tree.nodes in
    let ds : List Directory = c.keep.new.directories.items in
    all_paths nodes ds (IsPathNamed c.args.self.tree.seen facts) (paths_of_nodes c.args.own.now c.args.ranks nodes ds (returns-clause-owner c)) was.named

-- of each directory, the number that dumps name is counted, and the listed one is as it was
all_seen : (nodes held counted : List Node) (ss : List Sighting) (seen : List PathHeat) → map (with_path nodes) ss ≡ seen
    → HaveOwnPaths nodes → All (λ (s : Sighting). s.directory < length nodes) ss
    → ((i : ℕ) → path_pin_at counted i ≡ path_pin_at nodes i)
    → ((i : ℕ) → account_at counted i ≡ option_map (λ (n : Node). account_by i ss n.directory) (slice_get held i))
    → (i : ℕ) → option_map number_of (slice_get counted i) ≡ option_map (seen_of seen) (slice_get nodes i)
all_seen nodes held counted ss seen is apart inside pins all i =
    number_seen nodes i (slice_get counted i) (slice_get held i) (slice_get nodes i) ss seen is apart inside refl (pins i) (all i)

left_is : (numbered left : Bool) (seen : List PathHeat) (counted nodes : List Node)
    → ((i : ℕ) → option_map number_of (slice_get counted i) ≡ option_map (seen_of seen) (slice_get nodes i))
    → (those : List Node) → those ≡ counted → left ≡ (numbered && nat_lt (count_by is_named those) (2 * count_by is_named_doubtful those))
    → left ≡ have_left numbered seen nodes
left_is numbered left seen counted nodes all those same is =
    is ∙ (ap (λ (ns : List Node). numbered && nat_lt (count_by is_named ns) (2 * count_by is_named_doubtful ns)) same
    ∙ left_read numbered seen counted nodes all)

pub returns-clause-numbers : goal.returns-clause-numbers
returns-clause-numbers c = λ i.
    let nodes : List Node = c.args.self.tree.nodes in
    let counted : List Node = c.see_all.new.nodes.items in
    let ss : List Sighting = c.into_parts-nodes.result.1.items in
    let seen : List PathHeat = c.args.self.tree.seen in
    let numbered : Bool = c.args.self.is_numbered in
    let claimed : LieAsClaimed nodes c.place_all.new.nodes.items =
    subst (λ (ns : List Node). LieAsClaimed ns c.place_all.new.nodes.items) c.into_parts-nodes.ensures.nodes c.place_all.ensures in
    let all : (j : ℕ) → account_at counted j ≡ option_map (λ (n : Node). account_by j ss n.directory) (slice_get c.hold_tops.new.nodes.items j) =
    subst (λ (those : List Sighting). (j : ℕ) → account_at counted j
    ≡ option_map (λ (n : Node). account_by j those n.directory) (slice_get c.hold_tops.new.nodes.items j)) c.as_slice-4.ensures.value
    c.see_all.ensures.account in
    c.in_ok-keep.ensures.numbers i
    ∙ (at_map numbers_of (numbers_with numbered) c.in_ok-directories.directories.items counted c.in_ok-directories.ensures.numbers i
    ∙ numbers_read numbered seen (slice_get counted i) (slice_get nodes i)
    (all_seen nodes c.hold_tops.new.nodes.items counted ss seen c.into_parts-nodes.ensures.seen c.into_parts-nodes.ensures.apart
    c.into_parts-nodes.ensures.inside
    (λ j. c.see_all.ensures.pinned j ∙ (c.hold_tops.ensures.pinned j ∙ pin_placed nodes c.place_all.new.nodes.items claimed j)) all i))

pub returns-clause-here : goal.returns-clause-here
returns-clause-here c = λ _.
    let nodes : List Node = c.args.self.tree.nodes in
    let counted : List Node = c.see_all.new.nodes.items in
    let ss : List Sighting = c.into_parts-nodes.result.1.items in
    let seen : List PathHeat = c.args.self.tree.seen in
    let claimed : LieAsClaimed nodes c.place_all.new.nodes.items =
    subst (λ (ns : List Node). LieAsClaimed ns c.place_all.new.nodes.items) c.into_parts-nodes.ensures.nodes c.place_all.ensures in
    let all : (j : ℕ) → account_at counted j ≡ option_map (λ (n : Node). account_by j ss n.directory) (slice_get c.hold_tops.new.nodes.items j) =
    subst (λ (those : List Sighting). (j : ℕ) → account_at counted j
    ≡ option_map (λ (n : Node). account_by j those n.directory) (slice_get c.hold_tops.new.nodes.items j)) c.as_slice-4.ensures.value
    c.see_all.ensures.account in
    sym (left_is c.args.self.is_numbered c.have_left.result seen counted nodes
    (all_seen nodes c.hold_tops.new.nodes.items counted ss seen c.into_parts-nodes.ensures.seen c.into_parts-nodes.ensures.apart
    c.into_parts-nodes.ensures.inside
    (λ j. c.see_all.ensures.pinned j ∙ (c.hold_tops.ensures.pinned j ∙ pin_placed nodes c.place_all.new.nodes.items claimed j)) all)
    c.deref.result.now c.deref.ensures.value c.have_left.ensures)
    ∙ c.if-have_left.false

pub returns-then-have_left-clause-elsewhere : goal.returns-then-have_left-clause-elsewhere
returns-then-have_left-clause-elsewhere c = λ _.
    let nodes : List Node = c.args.self.tree.nodes in
    let counted : List Node = c.see_all.new.nodes.items in
    let ss : List Sighting = c.into_parts-nodes.result.1.items in
    let seen : List PathHeat = c.args.self.tree.seen in
    let claimed : LieAsClaimed nodes c.place_all.new.nodes.items =
    subst (λ (ns : List Node). LieAsClaimed ns c.place_all.new.nodes.items) c.into_parts-nodes.ensures.nodes c.place_all.ensures in
    let all : (j : ℕ) → account_at counted j ≡ option_map (λ (n : Node). account_by j ss n.directory) (slice_get c.hold_tops.new.nodes.items j) =
    subst (λ (those : List Sighting). (j : ℕ) → account_at counted j
    ≡ option_map (λ (n : Node). account_by j those n.directory) (slice_get c.hold_tops.new.nodes.items j)) c.as_slice-4.ensures.value
    c.see_all.ensures.account in
    sym (left_is c.args.self.is_numbered c.have_left.result seen counted nodes
    (all_seen nodes c.hold_tops.new.nodes.items counted ss seen c.into_parts-nodes.ensures.seen c.into_parts-nodes.ensures.apart
    c.into_parts-nodes.ensures.inside
    (λ j. c.see_all.ensures.pinned j ∙ (c.hold_tops.ensures.pinned j ∙ pin_placed nodes c.place_all.new.nodes.items claimed j)) all)
    c.deref.result.now c.deref.ensures.value c.have_left.ensures)
    ∙ c.if-have_left.true
