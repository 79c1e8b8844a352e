pub mod RasterLaws
