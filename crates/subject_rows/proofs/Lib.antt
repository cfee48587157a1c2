mod PartNames
