-- The numbers in the picture.
use Rattle.std.specs.Prelude.{◌-◌, ◌*◌, ◌/◌, ◌%◌, ◌++◌, ℕ, List, [], codes, Option, Some, None}
use Rattle.ceph_snapshot.specs.declared.directory.Directory.{Directory}
use Rattle.ceph_report.specs.Staying.{stay_text}
use Rattle.ceph_report.specs.Text.{field}
use Rattle.ceph_report.specs.declared.staying.Stay.{Stay}

unfoldable pub hundredths_text : List ℕ → ℕ → List ℕ
hundredths_text label hundredths =
    field label (hundredths / 100) ++ field (codes ".") (hundredths % 100 / 10) ++ field [] (hundredths % 10)

-- the colour of a rank: neighbours differ in hue and in how light they are
unfoldable pub colour_text : ℕ → List ℕ
colour_text rank =
    field (codes "hsl(") (rank * 137 % 360) ++ field (codes ",60%,") (85 - rank % 3 * 10) ++ codes "%)"

-- what is shown of a directory on hover, under its path: the rank that it is to be at and the one that has it, its heat
-- and inodes, and those with what is below
unfoldable pub hover_text : Directory → ℕ → ℕ → ℕ → List ℕ
hover_text directory heat inodes rank =
    field (codes "\nrank ") rank ++ field (codes ", now ") directory.now
    ++ field (codes "\nheat ") (directory.heat / 1000) ++ field (codes ", with what is below ") (heat / 1000)
    ++ field (codes "\ninodes ") directory.inodes ++ field (codes ", with what is below ") inodes

-- and why it is left where it is
abbrev pub hover_stay : Option Stay → List ℕ
hover_stay None = []
hover_stay (Some stay) = codes "\n" ++ stay_text stay

-- what is shown of the children together that have no box of their own
unfoldable pub rest_text : ℕ → ℕ → ℕ → List ℕ
rest_text count heat inodes =
    field (codes "<g><title>") count ++ field (codes " directories together\nheat ") (heat / 1000)
    ++ field (codes "\ninodes ") inodes ++ codes "</title>\n"
