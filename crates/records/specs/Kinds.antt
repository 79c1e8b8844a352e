-- The kind of a record's body.
-- Assumes nothing.
use Rattle.records.specs.declared.Body.{Body}
use Rattle.records.specs.declared.Kind.{Kind}

abbrev pub kind_of : Body → Kind
kind_of (Body.VorAzimuth status marker count) = Kind.VorAzimuth
kind_of (Body.VorFrequency status frequency) = Kind.VorFrequency
kind_of (Body.IlsCourse status inhibit count) = Kind.IlsCourse
kind_of (Body.IlsGlide status inhibit count) = Kind.IlsGlide
kind_of (Body.IlsFrequency status category frequency) = Kind.IlsFrequency
kind_of (Body.MlsFrequency status frequency) = Kind.MlsFrequency
kind_of (Body.MlsAzimuthDeviation status inhibit clearance count) = Kind.MlsAzimuthDeviation
kind_of (Body.MlsGlideDeviation status inhibit clearance count) = Kind.MlsGlideDeviation
kind_of (Body.SelectedAzimuth status manual degrees) = Kind.SelectedAzimuth
kind_of (Body.GreatestGlideAngle status tenths) = Kind.GreatestGlideAngle
kind_of (Body.SelectedGlideAngle status manual tenths) = Kind.SelectedGlideAngle
kind_of (Body.Part1 number content) = Kind.Part1
kind_of (Body.Part2 content) = Kind.Part2
kind_of (Body.Part3 content) = Kind.Part3
kind_of (Body.Part4 good content) = Kind.Part4
